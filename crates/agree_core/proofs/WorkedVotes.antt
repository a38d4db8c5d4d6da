-- The worked votes follow one another, and settle what they should.
use Rattle.std.proofs.Common.{◌≢◌, List, [], ◌∷◌, refl, sym, inl, inr, arith}
use Rattle.notation.specs.declared.entry.Entry.{Entry}
use Rattle.agree_core.specs.Ballots.{AllJustified, Ballot, In, Justified, ballot_at}
use Rattle.agree_core.specs.Books.{Rules}
use Rattle.agree_core.specs.Rows.{LeastRound, RefusedInTurn, SecondRound, agreeing, differing, three}
use Rattle.agree_core.proofs.FileBooks.{agreed_by_files}

three_justified : (p q r : Entry) (theirs : List Ballot) → In (ballot_at 1 0 q) theirs → In (ballot_at 0 0 p) theirs
    → Justified theirs (three p q r)
three_justified p q r theirs h k = grind arith

one_round : (p q r last other : Entry) → Justified (ballot_at 3 0 other ∷ three p q r) (ballot_at 3 0 last ∷ three p q r)
one_round p q r last other = grind arith

two_rounds : (p q r mine other last : Entry) → mine ≢ other
    → Justified (ballot_at 3 1 last ∷ ballot_at 3 0 other ∷ three p q r) (ballot_at 3 1 last ∷ ballot_at 3 0 mine ∷ three p q r)
two_rounds p q r mine other last h = (
  (omega arith, omega arith),
  inl (refl, (other, inr (inl refl), h)),
  grind (arith, three_justified p q r (ballot_at 3 1 last ∷ ballot_at 3 0 other ∷ three p q r)),
)

elsewhere : (p q r four six : Entry) → four ≢ six → In (ballot_at 3 0 four) (ballot_at 3 0 six ∷ three p q r) → ⊥
elsewhere p q r four six h i = grind arith

pub second_round : (p q r four six : Entry) → four ≢ six → SecondRound p q r four six
second_round p q r four six h =
    let one : AllJustified (differing p q r four six) = (one_round p q r four six, one_round p q r six four) in
    let two : AllJustified (agreeing p q r four six) = (two_rounds p q r four six six h, two_rounds p q r six four six (λ e. h (sym e))) in (
      one,
      two,
      agreed_by_files (differing p q r four six) one (p ∷ q ∷ r ∷ []) (inr (elsewhere p q r four six h, refl)),
      agreed_by_files (agreeing p q r four six) two (p ∷ q ∷ r ∷ six ∷ []) (inl (inl refl, refl)),
    )

pub least_round : (e f : Entry) → LeastRound e f
least_round e f = (((inr (inl refl), inr (inl refl)), λ r g h k. omega arith), λ s. s.1 0 e (omega arith) (inr (inl refl), inr (inl refl)))

pub refused_in_turn : {Why : Type 0} (rules : Rules Why) (e f : Entry) → RefusedInTurn rules e f
refused_in_turn rules e f = (λ h. inl (h, refl), λ h k. inr (h, inl (k, refl)))
