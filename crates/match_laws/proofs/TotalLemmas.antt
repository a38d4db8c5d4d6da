-- An innings' runs, summed by striker and by bowler.
use Rattle.std.proofs.Common.{◌∙◌, ◌≡◌, ℕ, zero, suc, ◌+◌, Bool, Some, None, Option, List, [], ◌∷◌, refl, arith}
use Rattle.std.specs.List.{range_with_len}
use Rattle.std.specs.Prelude.{nat_le, nat_lt, ◌==◌, ◌&&◌, if◌then◌else◌}
use Rattle.notation.specs.declared.entry.{Ball.Ball}
use Rattle.notation.specs.declared.entry.Plain.TheVariants.{Ball as Bowl}
use Rattle.notation.specs.Written.{IsPlayer}
use Rattle.ball_laws.specs.History.{History, IsInRange}
use Rattle.ball_laws.specs.Laws.{IsPlayed, state_after}
use Rattle.ball_laws.specs.Sums.{tally}
use Rattle.ball_laws.specs.Over.{numbers, debit_of}
use Rattle.ball_laws.proofs.Wickets.{ball-row, in_order-played}
use Rattle.match_laws.specs.History.{Delivery, deliveries, is_at, is_of}
use Rattle.match_laws.specs.Figures.{of_innings, of_striker, of_bowler, runs_of, byes_of, legs_of, wides_of, noballs_of, batted_of, total, byes, legs, wides, noballs, batter_runs}
use Rattle.match_laws.specs.Figures.{bowler_runs}
use Rattle.match_laws.specs.Refusals.{IsLegal}
use Rattle.match_laws.specs.Totals.{AddsUp}
use Rattle.match_laws.proofs.LegalLemmas.{taken}

-- ---- sums of sums

tally-zero : {X : Type 0} (xs : List X) → tally (λ x. 0) xs ≡ 0
tally-zero [] = refl
tally-zero (x ∷ xs) = let rest = tally-zero xs in omega arith

-- the sum over consecutive players of a number that only player q has
one_of_range : (v q a n : ℕ) → tally (λ p. if q == p then v else 0) (range_with_len a n) ≡ (if nat_le a q && nat_lt q (a + n) then v else 0)
one_of_range v q a zero = grind arith
one_of_range v q a (suc n) = grind (arith, one_of_range v q (a + 1) n)

one_player : (v q : ℕ) → IsPlayer q → tally (λ p. if q == p then v else 0) numbers ≡ v
one_player v q is = one_of_range v q 1 11 ∙ grind (arith, is.0, is.1)

one_where : (t : Bool) (v q : ℕ) → IsPlayer q → tally (λ p. if t && (q == p) then v else 0) numbers ≡ (if t then v else 0)
one_where t v q is = grind (arith, one_player, tally-zero)

-- ---- who struck and who bowled each delivery

abbrev IsStruck : Option ℕ → Type 0
IsStruck None = ⊥
IsStruck (Some q) = IsPlayer q

-- a delivery has a striker and a bowler of the eleven
record IsManned (d : Delivery) : Type 0 where
  pub struck : IsStruck d.striker
  pub bowled : IsPlayer (d.ball).bowler

abbrev AllManned : List Delivery → Type 0
AllManned [] = Unit {0}
AllManned (d ∷ ds) = AllManned ds × IsManned d

played : (n : ℕ) (h : History) → IsLegal n h → IsPlayed h
played n [] legal = tt
played n (x ∷ h) legal = grind (arith, played n h legal.0, taken n h x)

-- a delivery that is taken has a striker
struck : (n : ℕ) (h : History) (b : Ball) → IsLegal n (Bowl b ∷ h) → IsInRange h → IsStruck ((state_after h).ends).striker
struck n h b legal ranges =
    let sound = in_order-played h ranges (played n h legal.0) in
    let full = ball-row (state_after h).ends _ _ b (taken n h (Bowl b) refl legal.1).ball in
    grind (arith, sound.at_striker, full)

manned : (n : ℕ) (h : History) → IsLegal n h → IsInRange h → AllManned (deliveries h)
manned n [] legal ranges = tt
manned n (x ∷ h) legal ranges = grind (arith, struck n h, manned n h legal.0 ranges.0)

one_striker : (t : Bool) (v : ℕ) (s : Option ℕ) → IsStruck s → tally (λ p. if t && is_at s p then v else 0) numbers ≡ (if t then v else 0)
one_striker t v s is = grind (arith, one_where)

-- if one player of the eleven has each delivery's number, the sum by players is the sum by deliveries
sum-manned : (g : ℕ → Delivery → ℕ) (k : Delivery → ℕ) → ((d : Delivery) → IsManned d → tally (λ p. g p d) numbers ≡ k d) →
    (ds : List Delivery) → AllManned ds → tally (λ p. tally (g p) ds) numbers ≡ tally k ds
sum-manned g k one [] all = tally-zero numbers
sum-manned g k one (d ∷ ds) all = search (arith, (sum-manned g k one ds all.0))

-- ---- the parts of each delivery's runs

runs-struck : (i : ℕ) (ds : List Delivery) → tally (of_innings runs_of i) ds
    ≡ tally (of_innings batted_of i) ds + tally (of_innings byes_of i) ds + tally (of_innings legs_of i) ds
    + tally (of_innings wides_of i) ds + tally (of_innings noballs_of i) ds
runs-struck i [] = refl
runs-struck i (d ∷ ds) = grind (arith, runs-struck i ds)

runs-bowled : (i : ℕ) (ds : List Delivery) → tally (of_innings runs_of i) ds
    ≡ tally (of_innings debit_of i) ds + tally (of_innings byes_of i) ds + tally (of_innings legs_of i) ds
runs-bowled i [] = refl
runs-bowled i (d ∷ ds) = search (arith, (runs-bowled i ds))

pub adds_up : (n : ℕ) (h : History) → IsLegal n h → IsInRange h → (i : ℕ) → AddsUp h i
unfolding total byes legs wides noballs batter_runs bowler_runs
adds_up n h legal ranges i =
    let ds = deliveries h in
    let all = manned n h legal ranges in
    let batted = sum-manned (of_striker batted_of i) (of_innings batted_of i)
    (λ d m. one_striker (is_of i d) (batted_of d.ball) d.striker m.struck) ds all in
    let bowled = sum-manned (of_bowler debit_of i) (of_innings debit_of i)
    (λ d m. one_where (is_of i d) (debit_of d.ball) (d.ball).bowler m.bowled) ds all in
    record { by_batters = omega (arith, batted, runs-struck i ds); by_bowlers = omega (arith, bowled, runs-bowled i ds) }
