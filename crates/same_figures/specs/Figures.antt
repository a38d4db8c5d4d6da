-- The figures of an innings.
use Rattle.std.specs.Prelude.{ℕ, List}
use Rattle.notation.specs.declared.entry.Side.{Side}
use Rattle.match_laws.specs.declared.{score.Extras.Extras, rows.BattingRow.BattingRow, rows.BowlingRow.BowlingRow, rows.Fall.Fall}
use Rattle.falls.specs.declared.fallen.FallAt.{FallAt}

-- the side that bats; its total and wickets, and the overs bowled, with the balls of an unfinished one; the extras; who batted
-- and who bowled, in the order of the cards, and the row of each; the falls of wickets, and the over and ball of each fall
pub record Figures : Type 0 where
  pub side : Side
  pub total : ℕ
  pub wickets : ℕ
  pub overs : ℕ
  pub balls : ℕ
  pub extras : Extras
  pub batters : List ℕ
  pub batter : ℕ → BattingRow
  pub bowlers : List ℕ
  pub bowler : ℕ → BowlingRow
  pub falls : List Fall
  pub there : List FallAt
