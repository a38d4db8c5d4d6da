-- Two desks are never far apart.
use Rattle.std.proofs.Common.{◌≡◌, ◌⊎◌, ℕ, Option, Some, None, List, [], ◌∷◌, length, refl, sym, ap, ◌∙◌, subst, inl, inr, arith}
use Rattle.notation.specs.declared.entry.{Entry.Entry, Plain.Plain}
use Rattle.agree_core.specs.declared.{messages.DeskId.DeskId, position.Position.Position}
use Rattle.agree_core.specs.declared.messages.DeskId.TheVariants.{A, B}
use Rattle.agree_core.specs.Agreed.{IsAgreedList, Unsettled}
use Rattle.agree_core.specs.Ballots.{AllJustified, AllVotes, Ballot, Differed, Follows, In, Justified, VotesGrow, Within, ballot_at}
use Rattle.agree_core.specs.Keeping.{MineFine, SeatFine}
use Rattle.agree_core.specs.Positions.{Before, first, next_place, next_round}
use Rattle.agree_core.specs.Seats.{SeatState, SeatWaits}
use Rattle.agree_core.proofs.Order.{compare, earlier, one_vote}
use Rattle.agree_core.proofs.Both.{both_settled, both_turned}
use Rattle.agree_core.proofs.Settling.{none_later}
use Rattle.headline.proofs.Sound.{one_of_length}
use Rattle.progress.specs.CalmMoments.{NotBack}
use Rattle.progress.specs.InStep.{IsAfter, IsBehind}

pub ordered : (p q : Position) → (p ≡ q) ⊎ (Before p q ⊎ Before q p)
ordered p q = grind (arith, compare)

-- this position follows the vote, by what the other desk voted there
abbrev Next : List Ballot → Ballot → Position → Type 0
Next theirs y q = ((q ≡ next_round y.at) × Differed theirs y) ⊎ ((q ≡ next_place y.at) × In y theirs)

-- no desk can vote between a vote and the position that follows it
between : (a b prev : List Ballot) (y c : Ballot) (q : Position) → Justified b a → Justified a b → In y b
    → Before y.at c.at → Before c.at q → Next a y q → Follows b c prev → Within prev a → ⊥
between a b prev y c q ja jb i lo hi (inl n) f w = grind arith
between a b [] y c q ja jb i lo hi (inr n) f w = grind arith
between a b (z ∷ zs) y c q ja jb i lo hi (inr n) (inr g) w = grind arith
between a b (z ∷ zs) y c q ja jb i lo hi (inr n) (inl g) w =
    let here : In z a = w z (inl refl) in
    let place : z.at.place ≡ y.at.place = grind arith in
    elim (compare y.at.round z.at.round) [
      | inl less ↦ none_later a b ja jb y.at.place y.at.round z.at.round y.entry z.entry (n.1, i) (rw (← place) here) less
      | inr (inl same) ↦ grind (arith, one_vote b a ja z y, one_vote a b jb y)
      | inr (inr more) ↦ grind arith
    ]

-- a position at which a desk may vote next is after each of its votes
pub before_next : (theirs own : List Ballot) (c x : Ballot) → Justified theirs own → Follows theirs c own → In x own → Before x.at c.at
before_next theirs h1 c x j f i = grind (arith, earlier)

-- the desk's last vote is for this position, or it may vote there next
abbrev Here : List Ballot → List Ballot → Position → Entry → List Ballot → Type 0
Here theirs own p e prev = Follows theirs (record { at = p; entry = e }) prev × ((own ≡ record { at = p; entry = e } ∷ prev) ⊎ (own ≡ prev))

-- the vote that leads to the other desk's position is this desk's last one
module _ (a b prev_a ys : List Ballot) (y : Ballot) (p q : Position) (e : Entry) (ja : Justified b a) (jb : Justified a b)
    (fa : Follows b (record { at = p; entry = e }) prev_a) (next : Next a y q) (has : In y b) (lo : Before p q) where
  abbrev c : Ballot
  c = record { at = p; entry = e }

  voted : (x : Entry) × In (record { at = y.at; entry = x }) a
  voted = elim next [ inl n ↦ (n.1.0, n.1.1) | inr n ↦ (y.entry, n.1) ]

  far : Within prev_a a → Before y.at p → ⊥
  far w before = between a b prev_a y c q ja jb has before lo next fa w

  same_at : a ≡ c ∷ prev_a → y.at ≡ p
  same_at h = grind (arith, voted, far, earlier)

  after_it : a ≡ c ∷ prev_a → y.at ≡ p → IsAfter p e y.entry q
  after_it h s =
      let here : In c a = subst (In c) (sym h) (inl refl) in
      elim next [
        | inl n ↦ let k = one_vote b a ja (record { at = y.at; entry = n.1.0 }) c n.1.1 here s in
            inr ((λ d. n.1.2 (sym d ∙ sym (ap (λ (x : Ballot). x.entry) k))), n.0 ∙ ap next_round s)
        | inr n ↦ inl (sym (ap (λ (x : Ballot). x.entry) (one_vote b a ja y c n.1 here s)), n.0 ∙ ap next_place s)
      ]

  its_last : ((a ≡ c ∷ prev_a) ⊎ (a ≡ prev_a)) → (a ≡ c ∷ prev_a) × ((f : Entry) × In (record { at = p; entry = f }) b × IsAfter p e f q)
  its_last (inl h) =
      let s = same_at h in
      (h, (y.entry, subst (λ (r : Position). In (record { at = r; entry = y.entry }) b) s has, after_it h s))
  its_last (inr h) =
      let i : In (record { at = y.at; entry = voted.0 }) prev_a = subst (In (record { at = y.at; entry = voted.0 })) h voted.1 in
      let j : Justified b prev_a = subst (Justified b) h ja in
      let w : Within prev_a a = λ x k. subst (In x) (sym h) k in
      absurd (far w (before_next b prev_a c (record { at = y.at; entry = voted.0 }) j fa i))

-- if a desk is behind another one, it has voted at its position, and the other one is at the position after that
behind : (a b prev_a prev_b : List Ballot) (p q : Position) (e g : Entry) → Justified b a → Justified a b
    → Here b a p e prev_a → Here a b q g prev_b → Before p q
    → (a ≡ record { at = p; entry = e } ∷ prev_a) × ((f : Entry) × In (record { at = p; entry = f }) b × IsAfter p e f q)
behind a b prev_a [] p q e g ja jb ha hb lo = absurd (grind arith)
behind a b prev_a (y ∷ ys) p q e g ja jb ha hb lo =
    let has : In y b = elim hb.1 [
      | inl h ↦ subst (In y) (sym h) (inr (inl refl))
      | inr h ↦ subst (In y) (sym h) (inl refl)
    ] in
    its_last a b prev_a ys y p q e ja jb ha.0 hb.0 has lo ha.1

-- where a seat stands, by the votes
abbrev pub Stands : List Ballot → List Ballot → SeatState → Type 0
Stands theirs own s =
    (e : Entry) × (prev : List Ballot) × Follows theirs (record { at = s.position; entry = e }) prev
    × (((own ≡ record { at = s.position; entry = e } ∷ prev) × (s.mine ≡ Some e) × (s.theirs ≡ None)) ⊎ (own ≡ prev))

mine_stands : (theirs own : List Ballot) (book : List Entry) (s : SeatState) (e : Entry) (mine : Option Entry) → Justified theirs own → SeatWaits s
    → s.mine ≡ mine → MineFine theirs own book s.position mine → Stands theirs own s
mine_stands theirs own book s e None j w m h = (e, own, (h e).0, inr refl)
mine_stands theirs own book s e (Some x) j w m h = grind arith

pub stands : (d : DeskId) (theirs own : List Ballot) (book : List Entry) (s : SeatState) (e : Entry) → SeatFine d own theirs s book → Stands theirs own s
stands d theirs own book s e f = mine_stands theirs own book s e s.mine f.justified f.waits refl f.mine

longer : (c : Ballot) (xs : List Ballot) → xs ≡ c ∷ xs → ⊥
longer c xs e = let l = ap length e in omega (arith, l)

is_behind : (a b : List Ballot) (s t : SeatState) → Justified b a → Justified a b → Stands b a s → Stands a b t
    → Before s.position t.position → IsBehind b s t.position
is_behind a b s t ja jb hs ht lo = grind (arith, behind)

pub any : Entry
any = Entry.Write Plain.Void

-- two desks are at one position, or one of them is one position behind
pub never_far : (a b : List Ballot) (s t : SeatState) (xs ys : List Entry) → SeatFine A a b s xs → SeatFine B b a t ys
    → (s.position ≡ t.position) ⊎ (IsBehind b s t.position ⊎ IsBehind a t s.position)
never_far a b s t xs ys fs ft =
    let hs = stands A b a xs s any fs in
    let ht = stands B a b ys t any ft in
    elim (ordered s.position t.position) [
      | inl same ↦ inl same
      | inr (inl lo) ↦ inr (inl (is_behind a b s t fs.justified ft.justified hs ht lo))
      | inr (inr lo) ↦ inr (inr (is_behind b a t s ft.justified fs.justified ht hs lo))
    ]

-- the place at which a desk may vote next isn't settled
open_place : (own theirs : List Ballot) (p : Position) (g : Entry) → Justified theirs own → Justified own theirs
    → Follows theirs (record { at = p; entry = g }) own → (round : ℕ) (e : Entry)
    → In (ballot_at p.place round e) own → In (ballot_at p.place round e) theirs → ⊥
open_place h0 theirs p g jo jt f round e i k = grind (arith, before_next, compare, none_later, one_vote)

pub not_cast : (theirs own : List Ballot) (book : List Entry) (s : SeatState) (mine : Option Entry) → s.mine ≡ mine → s.mine ≡ None
    → MineFine theirs own book s.position mine → Follows theirs (record { at = s.position; entry = any }) own
not_cast theirs own book s h4 m n h = grind (arith, any)

-- if both desks are at one position, and not both have cast there, both books are the agreed list
pub agree : (a b : List Ballot) (s t : SeatState) (xs ys : List Entry) → SeatFine A a b s xs → SeatFine B b a t ys
    → s.position ≡ t.position → (s.mine ≡ None) ⊎ (t.mine ≡ None) → (xs ≡ ys) × IsAgreedList (record { a = a; b = b }) xs
agree a b s t xs ys fs ft at none =
    let v : AllVotes = record { a = a; b = b } in
    let j : AllJustified v = (fs.justified, ft.justified) in
    let settled = both_settled v j 0 xs fs.both in
    let theirs = both_settled v j 0 ys (both_turned b a 0 ys ft.both) in
    let size : length xs ≡ length ys = fs.long ∙ ap (λ (p : Position). p.place) at ∙ sym ft.long in
    let grow : VotesGrow v v = ((λ c i. i), (λ c i. i)) in
    (one_of_length v v v j xs ys grow grow settled theirs size, (settled, unsettled))
  where
    unsettled : Unsettled (record { a = a; b = b }) (length xs)
    unsettled round e h = elim none [
      | inl n ↦
          let p = fs.long in
          open_place a b s.position any fs.justified ft.justified (not_cast b a xs s s.mine refl n fs.mine) round e (grind arith) (grind arith)
      | inr n ↦
          let p : length xs ≡ t.position.place = fs.long ∙ ap (λ (p : Position). p.place) at in
          open_place b a t.position any ft.justified fs.justified (not_cast a b ys t t.mine refl n ft.mine) round e (grind arith) (grind arith)
    ]

-- a vote of the other desk is for the seat's position or an earlier one, or the seat is one position behind it
came_after : (own theirs : List Ballot) (x : Ballot) → Justified own theirs → In x theirs → (x.at ≡ first) ⊎ ((y : Ballot) × In y theirs × Next own y x.at)
came_after own [] x j i = absurd i
came_after own (z ∷ []) x j (inl e) = inl (ap (λ (c : Ballot). c.at) e ∙ j.1)
came_after own (z ∷ y ∷ ys) x j (inl e) = inr (y, inr (inl refl), subst (λ (c : Ballot). Next own y c.at) (sym e) j.1)
came_after own (z ∷ zs) x j (inr i) = grind (arith, (came_after own zs x j.2 i))

pub not_from_ahead : (d : DeskId) (own theirs : List Ballot) (s : SeatState) (book : List Entry) (x : Ballot) → SeatFine d own theirs s book → Justified own theirs
    → In x theirs → NotBack x.at s.position ⊎ IsBehind theirs s x.at
not_from_ahead d own theirs s book x f j i = elim (ordered x.at s.position) [
  | inl e ↦ inl (inl (sym e))
  | inr (inl lo) ↦ inl (inr lo)
  | inr (inr hi) ↦ elim (came_after own theirs x j i) [
    | inl e ↦ absurd (let n = e in grind (arith, n, hi))
    | inr h ↦ inr (behind_it h.0 h.1 h.2 hi)
  ]
]
  where
    hs : Stands theirs own s
    hs = stands d theirs own book s any f

    behind_it : (y : Ballot) → In y theirs → Next own y x.at → Before s.position x.at → IsBehind theirs s x.at
    behind_it y has next lo =
        let g = its_last own theirs hs.1 [] y s.position x.at hs.0 f.justified j hs.2 next has lo (elim hs.3 [ inl k ↦ inl k.0 | inr k ↦ inr k ]) in
        elim hs.3 [
          | inl k ↦ (hs.0, g.1.0, k.1, k.2, g.1.1, g.1.2)
          | inr k ↦ absurd (longer (record { at = s.position; entry = hs.0 }) hs.1 (sym k ∙ g.0))
        ]
