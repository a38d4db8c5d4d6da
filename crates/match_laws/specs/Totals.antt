-- An innings' total, counted by its batters and by its bowlers.
use Rattle.std.specs.Prelude.{◌≡◌, ℕ, ◌+◌}
use Rattle.ball_laws.specs.History.{History}
use Rattle.ball_laws.specs.Sums.{tally}
use Rattle.ball_laws.specs.Over.{numbers}
use Rattle.match_laws.specs.Figures.{total, byes, legs, wides, noballs, penalty_runs, batter_runs, bowler_runs}

-- the runs of all batters of innings i
abbrev pub batters_runs : History → ℕ → ℕ
batters_runs h i = tally (λ p. batter_runs h i p) numbers

-- the runs debited to all bowlers of innings i
abbrev pub bowlers_runs : History → ℕ → ℕ
bowlers_runs h i = tally (λ p. bowler_runs h i p) numbers

-- the extras of innings i (Laws 21 to 23 and 41)
abbrev pub all_extras : History → ℕ → ℕ
all_extras h i = byes h i + legs h i + wides h i + noballs h i + penalty_runs h i

-- the total is the batters' runs plus the extras, and also the bowlers' runs plus the byes, leg byes and penalty runs,
-- which no bowler is debited
pub record AddsUp (h : History) (i : ℕ) : Type 0 where
  pub by_batters : total h i ≡ batters_runs h i + all_extras h i
  pub by_bowlers : total h i ≡ bowlers_runs h i + byes h i + legs h i + penalty_runs h i
