-- What a board's figures add up to.
use Rattle.std.proofs.Common.{◌≡◌, ℕ, ◌+◌, true, [], ◌∷◌, length, eqb, refl, sym, ap, arith}
use Rattle.std.proofs.lemmas.Bool.{eq-eqb}
use Rattle.std.proofs.lemmas.List.{length_push}
use Rattle.notation.specs.declared.entry.Plain.TheVariants.{Innings, Ball as Bowl, Gone, Over, End}
use Rattle.ball_laws.specs.History.{History, open_over}
use Rattle.ball_laws.specs.Laws.{state_after}
use Rattle.ball_laws.specs.Over.{counting, bowled_in}
use Rattle.ball_laws.proofs.Wickets.{ball-row}
use Rattle.match_laws.specs.History.{begun, is_open, since_call}
use Rattle.match_laws.specs.Figures.{wickets, falls, balls}
use Rattle.match_laws.specs.Refusals.{IsLegal}
use Rattle.match_laws.specs.Result.{current}
use Rattle.match_laws.proofs.LegalLemmas.{current-open, taken}
use Rattle.match_laws.proofs.ScoreLemmas.{since_call-none}

-- ---- a fall for each wicket

pub falls-wickets : (n : ℕ) (h : History) (i : ℕ) → IsLegal n h → length (falls h i) ≡ wickets h i
unfolding falls wickets
falls-wickets n [] i legal = refl
falls-wickets n (Bowl b ∷ h) i legal =
    let ends = (state_after h).ends in
    let full = ball-row ends (bowled_in b.bowler (state_after h).last_over) (length (state_after h).this_over) b (taken n h (Bowl b) refl legal.1).ball in
    grind (arith, falls-wickets n h i legal.0, full, length_push (falls h i))
falls-wickets n (Gone way p ∷ h) i legal = grind (arith, falls-wickets n h i legal.0, length_push (falls h i))
falls-wickets n (x ∷ h) i legal = falls-wickets n h i legal.0

-- ---- this over

here : (h : History) → is_open h ≡ true → eqb (begun h) (current h + 1) ≡ true
here h is = eq-eqb (begun h) (current h + 1) (current-open h is)

pub this_over-since : (h : History) → is_open h ≡ true → open_over h ≡ since_call h (current h)
this_over-since [] is = absurd cc
this_over-since (Innings s ∷ h) is = sym (since_call-none h (current (Innings s ∷ h)) (omega arith))
this_over-since (Bowl b ∷ h) is = rw (here h is) (ap (λ bs. b ∷ bs) (this_over-since h is))
this_over-since (Over ∷ h) is = rw (here h is) refl
this_over-since (End cause ∷ h) is = absurd cc
this_over-since (x ∷ h) is = this_over-since h is

pub counts_this_over : (h : History) → is_open h ≡ true → counting (open_over h) ≡ balls h (current h)
unfolding balls
counts_this_over h is = ap counting (this_over-since h is)
