-- Rates of runs off deliveries, in hundredths of a run.
use Rattle.std.specs.Prelude.{ℕ, ◌+◌, ◌*◌, ◌/◌, ◌%◌, ◌<◌, ◌≤◌, ◌==◌, if◌then◌else◌, Option, Some, None, List, ◌++◌, codes, decimal}

-- the fraction n / d in hundredths, with halves rounded up
abbrev pub hundredths : ℕ → ℕ → ℕ
hundredths n d = (200 * n + d) / (2 * d)

-- x hundredths are within half a hundredth of n / d, which is at least x - 1/2 and less than x + 1/2 hundredths
pub record IsNearest (n d x : ℕ) : Type 0 where
  pub not_less : 2 * d * x ≤ 200 * n + d
  pub less : 200 * n < 2 * d * x + d

-- the rate of these runs off these deliveries, for an over of six deliveries; none if there are no deliveries
abbrev pub an_over : ℕ → ℕ → Option ℕ
an_over runs deliveries = if deliveries == 0 then None else Some (hundredths (6 * runs) deliveries)

-- the rate of these runs off these deliveries, for one delivery
abbrev pub a_ball : ℕ → ℕ → Option ℕ
a_ball runs deliveries = if deliveries == 0 then None else Some (hundredths runs deliveries)

-- hundredths in figures, with two decimal places
abbrev pub two_places : ℕ → List ℕ
two_places x = decimal (x / 100) ++ codes "." ++ decimal (x / 10 % 10) ++ decimal (x % 10)
