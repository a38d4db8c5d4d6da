-- The state of the match before an item.
use Rattle.std.specs.Prelude.{◌≡◌, ℕ, ◌≤◌}
use Rattle.ball_laws.specs.History.{History}
use Rattle.ball_laws.specs.Crease.{standing_of}
use Rattle.ball_laws.specs.Laws.{state_after}
use Rattle.over_numbers.specs.Counts.{counted}
use Rattle.desk_state.specs.declared.before.Before.{Before}

-- b is the state after history h
pub record HasCome (h : History) (b : Before) : Type 0 where
  pub count : b.count ≡ counted h
  pub crease : b.crease ≡ standing_of (state_after h)

-- its counts are at most k
pub record IsWithin (k : ℕ) (b : Before) : Type 0 where
  pub begun : b.count.begun ≤ k
  pub overs : b.count.overs ≤ k
  pub balls : b.count.balls ≤ k
