-- A vote that a desk has cast is never one that its file lacks.
use Rattle.std.proofs.Common.{arith, ◌≡◌, Bool, true, false, ⊎_elim, ◌&&◌, ◌||◌, not, List, [], ◌∷◌, Option, Some, None, refl, sym, ap, ap₂, ◌∙◌, subst, inl, inr}
use Rattle.std.specs.Prelude.{is_some}
use Rattle.std.specs.Str.{bytes_eq}
use Rattle.std.proofs.lemmas.Bool.Decides.{nat_tests}
use Rattle.std.proofs.lemmas.Slice.Eq.{bytes_eq-Decides}
use Rattle.notation.specs.declared.entry.Entry.{Entry}
use Rattle.notation.specs.Code.{code}
use Rattle.agree_core.specs.declared.{messages.DeskId.DeskId, position.Position.Position}
use Rattle.agree_core.specs.Ballots.{Ballot, Follows, In, Justified}
use Rattle.agree_core.specs.Keeping.{MineFine, SeatFine}
use Rattle.agree_core.specs.LostLines.{is_at, is_before}
use Rattle.agree_core.specs.Positions.{Before}
use Rattle.agree_core.specs.Seats.{SeatState}
use Rattle.agree_core.proofs.Order.{earlier, one_vote}
use Rattle.live.specs.LostLines.{is_other_last, is_uncast, is_unkept}

before_so : (p q : Position) → Before p q → is_before p q ≡ true
before_so p q h = grind (arith, nat_tests)

at_self : (p : Position) → is_at p p ≡ true
at_self p = grind (arith, nat_tests)

at_once : (p q : Position) → is_at p q ≡ true → p ≡ q
at_once p q e = grind (arith, nat_tests)

same_code : (e : Entry) → bytes_eq (code e) (code e) ≡ true
same_code e = (bytes_eq-Decides (code e) (code e)).1 refl

and_not : (p q : Bool) → q ≡ true → (p && not q) ≡ false
and_not p q e = grind arith

follows_later : (theirs : List Ballot) (c b : Ballot) (bs : List Ballot) → Follows theirs c (b ∷ bs) → Before b.at c.at
follows_later theirs c b bs h = grind arith

passes : (p q r : Position) → Before p q → Before q r → Before p r
passes p q r h k = grind arith

module _ (theirs : List Ballot) (b : Ballot) where
  -- the vote is for an earlier position than any vote that may follow
  before_next : (own : List Ballot) → Justified theirs own → In b own → (c : Ballot) → Follows theirs c own → Before b.at c.at
  before_next [] j i c f = absurd i
  before_next (x ∷ xs) j (inl e) c f = subst (λ (x : Ballot). Before x.at c.at) (sym e) (follows_later theirs c x xs f)
  before_next (x ∷ xs) j (inr i) c f = passes b.at x.at c.at (earlier theirs x xs j b i) (follows_later theirs c x xs f)

  module _ (own : List Ballot) (j : Justified theirs own) (i : In b own) where
    cast : (s : SeatState) (book : List Entry) (mine : Option Entry) → mine ≡ s.mine → MineFine theirs own book s.position mine → is_uncast s b.at ≡ false
    cast s book None e m =
        let any : Entry = b.entry in
        let earlier = before_so b.at s.position (before_next own j i (record { at = s.position; entry = any }) (m any).0) in
        ap (λ x. not x && not (is_at b.at s.position && is_some s.mine)) earlier
    cast s book (Some e) is m = by_last m.0 m.1
      where
        by_last : (rest : List Ballot) → own ≡ record { at = s.position; entry = e } ∷ rest → is_uncast s b.at ≡ false
        by_last rest split = ⊎_elim here before (subst (In b) split i)
          where
            here : b ≡ record { at = s.position; entry = e } → is_uncast s b.at ≡ false
            here same =
                let at : b.at ≡ s.position = ap (λ (b : Ballot). b.at) same in
                and_not (not (is_before b.at s.position)) (is_at b.at s.position && is_some s.mine)
                (ap₂ ◌&&◌ (ap (λ (p : Position). is_at p s.position) at ∙ at_self s.position) (ap is_some (sym is)))

            before : In b rest → is_uncast s b.at ≡ false
            before k =
                let less = before_so b.at s.position (earlier theirs (record { at = s.position; entry = e }) rest (subst (Justified theirs) split j) b k) in
                ap (λ x. not x && not (is_at b.at s.position && is_some s.mine)) less

    not_other : (votes : List Ballot) → votes ≡ own → is_other_last votes b.at (code b.entry) ≡ false
    not_other [] e = refl
    not_other (x ∷ xs) e = turn (is_at x.at b.at) refl
      where
        turn : (q : Bool) → q ≡ is_at x.at b.at → (q && not (bytes_eq (code b.entry) (code x.entry))) ≡ false
        turn false is = refl
        turn true is =
            let same : x ≡ b = one_vote theirs own j x b (subst (In x) e (inl refl)) i (at_once x.at b.at (sym is)) in
            ap not (ap (λ (c : Ballot). bytes_eq (code b.entry) (code c.entry)) same ∙ same_code b.entry)

  pub kept : (d : DeskId) (own : List Ballot) (s : SeatState) (book : List Entry) → SeatFine d own theirs s book → In b own → is_unkept s own b.at (code b.entry) ≡ false
  kept d own s book fine i = ap₂ ◌||◌ (cast own fine.justified i s book s.mine refl fine.mine) (not_other own fine.justified i own refl)
