-- A position that both desks' votes lead to: both voted at each position before it, and differed in the earlier rounds.
use Rattle.std.proofs.Common.{◌≡◌, ◌≢◌, ◌⊎◌, ◌<◌, ◌+◌, ℕ, List, [], ◌∷◌, length, get_or, refl, sym, ap, ◌∙◌, subst, inl, inr, arith, false, true}
use Rattle.std.proofs.lemmas.Bool.{false≢true}
use Rattle.std.specs.Prelude.{Bool}
use Rattle.std.proofs.lemmas.Option.{slice_get-get_or}
use Rattle.notation.specs.contracts.entry.EntryPartialEq.TheImpl as entries
use Rattle.notation.specs.declared.entry.Entry.{Entry}
use Rattle.notation.proofs.Same.{same_when}
use Rattle.agree_core.specs.declared.{messages.DeskId.DeskId, position.Position.Position}
use Rattle.agree_core.specs.declared.messages.DeskId.TheVariants.{A, B}
use Rattle.agree_core.specs.Agreed.{AllBoth, EqualVotes}
use Rattle.agree_core.specs.Ballots.{AllJustified, AllVotes, Ballot, Follows, In, Justified, VotesGrow, Within, ballot_at}
use Rattle.agree_core.specs.Keeping.{SeatFine}
use Rattle.agree_core.specs.Positions.{Before, next_round}
use Rattle.agree_core.specs.Seats.{SeatState}
use Rattle.agree_core.proofs.Both.{both_at}
use Rattle.agree_core.proofs.Order.{BothDiffered, compare, differed, one_vote}
use Rattle.progress.specs.InStep.{BothVoted, HasVoted}
use Rattle.progress.proofs.Near.{any, stands}

pub same_entry : (e f : Entry) → (e ≡ f) ⊎ (e ≢ f)
same_entry e f = turn ((entries.ghosts).eq e f) refl
  where
    turn : (r : Bool) → r ≡ (entries.ghosts).eq e f → (e ≡ f) ⊎ (e ≢ f)
    turn true q = inl ((same_when true e f q).0 refl)
    turn false q = inr (λ s. false≢true ((same_when false e f q).1 s))

pub both_voted : (v : AllVotes) (p : Position) → HasVoted v A p → HasVoted v B p → BothVoted v p
both_voted v p a b A = a
both_voted v p a b B = b

-- both desks voted in this round, and differed
abbrev pub DifferedIn : AllVotes → ℕ → ℕ → Type 0
DifferedIn v place round = BothDiffered v.a v.b place round

-- in each earlier round of its place both desks differed
abbrev pub RoundsFine : AllVotes → Position → Type 0
RoundsFine v p = (round : ℕ) → round < p.round → DifferedIn v p.place round

pub rounds_grow : (v w : AllVotes) → VotesGrow v w → (p : Position) → RoundsFine v p → RoundsFine w p
rounds_grow v w g p h round less =
    let d = h round less in
    (d.0, d.1, g.0 (ballot_at p.place round d.0) d.2, g.1 (ballot_at p.place round d.1) d.3, d.4)

pub one_round_more : (v : AllVotes) (p : Position) → RoundsFine v p → DifferedIn v p.place p.round → RoundsFine v (next_round p)
one_round_more v p h d round less = elim (compare round p.round) [
  | inl l ↦ h round l
  | inr (inl e) ↦ subst (DifferedIn v p.place) (sym e) d
  | inr (inr more) ↦ absurd (omega (arith, less, more))
]

-- this holds of a position at which a desk may vote next
rounds_followed : (own theirs prev : List Ballot) (c : Ballot) → Follows theirs c prev → Within prev own → Justified theirs prev → (round : ℕ) → round < c.at.round
    → BothDiffered own theirs c.at.place round
rounds_followed own theirs [] c e w j round less = absurd (grind (arith, e, less))
rounds_followed own theirs (z ∷ zs) c (inr n) w j round less = absurd (let e = n.0 in grind (arith, e, less))
rounds_followed own theirs (z ∷ zs) c (inl n) w j round less = elim (compare round z.at.round) [
  | inl q ↦
      let d = differed theirs (z ∷ zs) j z (inl refl) c.at.place round (ap (λ (p : Position). p.place) n.0) q in
      (d.0, d.1, w (ballot_at c.at.place round d.0) d.2, d.3, d.4)
  | inr (inl q) ↦ (z.entry, n.1.0, grind (arith, w z (inl refl)), grind arith, n.1.2)
  | inr (inr q) ↦ absurd (grind arith)
]

-- and of the position of a desk's seat
pub rounds_of_seat : (d : DeskId) (own theirs : List Ballot) (s : SeatState) (book : List Entry) → SeatFine d own theirs s book → (round : ℕ) → round < s.position.round
    → BothDiffered own theirs s.position.place round
rounds_of_seat d own theirs s book f round less =
    let hs = stands d theirs own book s any f in
    let within : Within hs.1 own = λ b i. elim hs.3 [ inl k ↦ rw k.0 (inr i) | inr k ↦ rw k i ] in
    let justified : Justified theirs hs.1 = let j = f.justified in grind arith in
    rounds_followed own theirs hs.1 (record { at = s.position; entry = hs.0 }) hs.2 within justified round less

-- if both voted alike at the place, both have voted in each round up to this position
pub voted_up_to : (v : AllVotes) → AllJustified v → (p : Position) → RoundsFine v p → (round : ℕ) (e : Entry) → EqualVotes v p.place round e → BothVoted v p
voted_up_to v j p fine round e h = elim (compare round p.round) [
  | inl lo ↦
      let d = fine round lo in
      let a = one_vote v.b v.a j.0 (ballot_at p.place round e) (ballot_at p.place round d.0) h.0 d.2 refl in
      let b = one_vote v.a v.b j.1 (ballot_at p.place round e) (ballot_at p.place round d.1) h.1 d.3 refl in
      absurd (d.4 (sym (ap (λ (x : Ballot). x.entry) a) ∙ ap (λ (x : Ballot). x.entry) b))
  | inr (inl same) ↦ subst (λ (n : ℕ). BothVoted v (record { place = p.place; round = n })) same (both_voted v (record { place = p.place; round = round }) (e, h.0) (e, h.1))
  | inr (inr more) ↦
      let d = differed v.b v.a j.0 (ballot_at p.place round e) h.0 p.place p.round refl more in
      both_voted v p (d.0, d.2) (d.1, d.3)
]

-- whoever is at a later position has passed both votes of an earlier one
pub passed : (v : AllVotes) → AllJustified v → (p q : Position) (book : List Entry) → AllBoth v.a v.b 0 book → length book ≡ q.place → RoundsFine v p → RoundsFine v q
    → Before p q → BothVoted v p
passed v j p q book both long before now (inr (place, less)) =
    let d = now p.round less in
    both_voted v p (d.0, subst (λ (n : ℕ). In (ballot_at n p.round d.0) v.a) (sym place) d.2) (d.1, subst (λ (n : ℕ). In (ballot_at n p.round d.1) v.b) (sym place) d.3)
passed v j p q book both long before now (inl less) =
    let here = get_or book p.place any in
    let equal = both_at v.a v.b 0 book p.place here both (slice_get-get_or book p.place any (omega (arith, long, less))) in
    let same : 0 + p.place ≡ p.place = omega arith in
    voted_up_to v j p before equal.0 here (subst (λ (n : ℕ). EqualVotes v n equal.0 here) same equal.1)
