-- The bowling table of an innings: the eleven bowlers' rows, and the order in which they first bowled.
use Rattle.std.specs.Prelude.{ℕ, ◌+◌, ◌-◌, ◌<◌, ◌^◌, ◌==◌, Bool, true, false}
use Rattle.notation.specs.declared.entry.{Ball.Ball, Plain.Plain}
use Rattle.notation.specs.declared.entry.Plain as plain
use Rattle.ball_laws.specs.declared.over.OverNow.{OverNow}
use Rattle.ball_laws.specs.History.{History}
use Rattle.ball_laws.specs.Over.{counts, debit_of}
use Rattle.match_laws.specs.declared.{rows.BowlingRow.BowlingRow, bowling.BowlingTable.BowlingTable}
use Rattle.ball_laws.specs.Sums.{one_if}
use Rattle.match_laws.specs.Figures.{wides_of, noballs_of, credited, bowling_order}
use Rattle.match_laws.specs.Parts.{from_front, bowling_row_of}
use Rattle.match_laws.specs.inner.BattingTables.{player_rows}

-- the bowling table of innings i
abbrev pub bowling_table_of : History → ℕ → BowlingTable
bowling_table_of h i = record {
  rows = player_rows (bowling_row_of h i);
  order = from_front 11 (bowling_order h i);
}

-- the bowler's row after one more delivery
abbrev pub row_with_ball : Ball → BowlingRow → BowlingRow
row_with_ball b row = record row {
  balls = row.balls + one_if (counts b);
  runs = row.runs + debit_of b;
  wickets = row.wickets + credited b;
  wides = row.wides + wides_of b;
  noballs = row.noballs + noballs_of b;
}

-- the row of the one bowler who bowled all of an over, once it is called: its counting deliveries become an over and
-- are no longer balls
abbrev pub row_with_over : OverNow → BowlingRow → BowlingRow
row_with_over over row = record row {
  overs = row.overs + 1;
  balls = row.balls - over.counting;
  maidens = row.maidens + one_if (over.debit == 0);
}

-- each number of a row has room for one more entry
pub record IsSmallBowlingRow (row : BowlingRow) : Type 0 where
  pub overs : row.overs < 2 ^ 28
  pub balls : row.balls < 2 ^ 28
  pub maidens : row.maidens < 2 ^ 28
  pub runs : row.runs < 2 ^ 28
  pub wickets : row.wickets < 2 ^ 28
  pub wides : row.wides < 2 ^ 28
  pub noballs : row.noballs < 2 ^ 28

-- whether an entry is a delivery or a call of over
abbrev pub is_of_bowling : Plain → Bool
is_of_bowling (plain.TheVariants.Ball b) = true
is_of_bowling plain.TheVariants.Over = true
is_of_bowling _ = false
