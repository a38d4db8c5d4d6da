-- No vote of the other desk differs from the vote by which a desk went on.
use Rattle.std.proofs.lemmas.Grind.{common_steps}
use Rattle.std.proofs.Common.{◌≡◌, ◌≢◌, ◌⊎◌, ◌<◌, ℕ, Bool, true, false, List, [], ◌∷◌, refl, sym, ap, subst, inl, inr, arith}
use Rattle.std.specs.Prelude.{if◌then◌else◌}
use Rattle.std.specs.Str.{bytes_eq}
use Rattle.std.proofs.lemmas.Bool.Decides.{nat_tests}
use Rattle.std.proofs.lemmas.Slice.Eq.{bytes_eq-Decides}
use Rattle.notation.specs.declared.entry.Entry.{Entry}
use Rattle.notation.specs.Code.{code}
use Rattle.notation.specs.Written.{IsEntry}
use Rattle.notation.proofs.Decoded.{code_once}
use Rattle.agree_core.specs.declared.{messages.DeskId.DeskId, position.Position.Position}
use Rattle.agree_core.specs.Ballots.{Ballot, Differed, Follows, In, Justified}
use Rattle.agree_core.specs.Keeping.{SeatFine}
use Rattle.agree_core.specs.LostLines.{is_another, is_at, is_before}
use Rattle.agree_core.specs.Positions.{Before, next_place, next_round}
use Rattle.agree_core.specs.Seats.{SeatState}
use Rattle.agree_core.proofs.Order.{one_vote}
use Rattle.agree_core.proofs.Settling.{none_later}
use Rattle.progress.proofs.Near.{any, ordered, stands}

pub at_itself : (p : Position) → is_at p p ≡ true
at_itself p = grind (arith, nat_tests)

not_at : (p q : Position) → Before q p → is_at p q ≡ false
not_at p q h = grind (arith, nat_tests)

not_before : (p q : Position) → Before q p → is_before p q ≡ false
not_before p q h = grind (arith, nat_tests)

place_is_no_round : (p : Position) → is_at (next_place p) (next_round p) ≡ false
place_is_no_round p = grind (arith, nat_tests)

one_code : (e f : Entry) → e ≡ f → bytes_eq (code e) (code f) ≡ true
one_code e f same = (bytes_eq-Decides (code e) (code f)).1 (ap code same)

two_codes : (e f : Entry) → IsEntry e → IsEntry f → e ≢ f → bytes_eq (code e) (code f) ≡ false
two_codes e f i k differ = turn (bytes_eq (code e) (code f)) refl
  where
    turn : (r : Bool) → r ≡ bytes_eq (code e) (code f) → r ≡ false
    turn false q = refl
    turn true q = absurd (differ (code_once e f i k ((bytes_eq-Decides (code e) (code f)).0 (sym q))))

-- by cases of the last vote's position
elsewhere : (at : Bool) (x y : Bool) → at ≡ false → y ≡ false → (if at then x else y) ≡ false
elsewhere at x y e f = grind (arith, e, f)

module _ (s : SeatState) (c : Ballot) (less : Before c.at s.position) where
  -- a desk that has cast at its position has its last vote there
  cast : (e : Entry) (prev : List Ballot) → is_another s (record { at = s.position; entry = e } ∷ prev) c.at (code c.entry) ≡ false
  cast e prev = elsewhere (is_at s.position c.at) _ (is_before s.position c.at) (not_at s.position c.at less) (not_before s.position c.at less)

  module _ (theirs : List Ballot) (z : Ballot) (zs : List Ballot) (jo : Justified theirs (z ∷ zs)) (jt : Justified (z ∷ zs) theirs)
      (i : In c theirs) (is : IsEntry c.entry) (own : IsEntry z.entry) where
    -- the other desk's vote is for the position of the last vote
    same_round : c.at ≡ z.at → s.position ≡ next_round z.at → Differed theirs z → is_another s (z ∷ zs) c.at (code c.entry) ≡ false
    same_round here next d = grind (arith, one_vote, place_is_no_round, at_itself, two_codes)

    same_place : c.at ≡ z.at → s.position ≡ next_place z.at → In z theirs → is_another s (z ∷ zs) c.at (code c.entry) ≡ false
    same_place here next k = grind (arith, one_vote, at_itself, one_code)

    -- no vote is for a position between the last vote's and the desk's own
    not_between : Before z.at c.at → ((s.position ≡ next_round z.at) × Differed theirs z) ⊎ ((s.position ≡ next_place z.at) × In z theirs) → ⊥
    not_between behind (inl n) = let next = n.0 in grind arith
    not_between behind (inr n) =
        let next = n.0 in
        let place : c.at.place ≡ z.at.place = grind arith in
        let round : z.at.round < c.at.round = grind arith in
        none_later theirs (z ∷ zs) jt jo z.at.place z.at.round c.at.round z.entry c.entry (n.1, inl refl)
        (subst (λ (o : ℕ). In (record { at = record { place = o; round = c.at.round }; entry = c.entry }) theirs) place i) round

    went_on : ((s.position ≡ next_round z.at) × Differed theirs z) ⊎ ((s.position ≡ next_place z.at) × In z theirs)
        → is_another s (z ∷ zs) c.at (code c.entry) ≡ false
    went_on next = grind (arith, common_steps, ordered, same_round, same_place, not_between)

  by_last : (theirs own : List Ballot) (e : Entry) → Justified theirs own → Justified own theirs → In c theirs → IsEntry c.entry
      → ((b : Ballot) → In b own → IsEntry b.entry) → Follows theirs (record { at = s.position; entry = e }) own
      → is_another s own c.at (code c.entry) ≡ false
  by_last theirs [] e jo jt i is are f = refl
  by_last theirs (z ∷ zs) e jo jt i is are f = went_on theirs z zs jo jt i is (are z (inl refl)) f

  -- a vote of the other desk for an earlier position isn't another one
  pub not_another : (d : DeskId) (theirs own : List Ballot) (book : List Entry) → SeatFine d own theirs s book → Justified own theirs → In c theirs
      → IsEntry c.entry → ((b : Ballot) → In b own → IsEntry b.entry) → is_another s own c.at (code c.entry) ≡ false
  not_another d theirs own book f jt i is are =
      let hs = stands d theirs own book s any f in
      elim hs.3 [
        | inl k ↦ subst (λ (x : List Ballot). is_another s x c.at (code c.entry) ≡ false) (sym k.0) (cast hs.0 hs.1)
        | inr k ↦ by_last theirs own hs.0 f.justified jt i is are (subst (Follows theirs (record { at = s.position; entry = hs.0 })) (sym k) hs.2)
      ]
