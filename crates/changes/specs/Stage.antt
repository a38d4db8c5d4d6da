-- What a match shows of each player, of each side's innings and of its result, at some stage of its book.
use Rattle.std.specs.Prelude.{ℕ, ◌==◌, ◌&&◌, nat_lt, if◌then◌else◌, Bool, Option, Some, None, option_map}
use Rattle.notation.specs.declared.entry.Side.{Side}
use Rattle.ball_laws.specs.History.{History}
use Rattle.ball_laws.specs.Laws.{state_after}
use Rattle.match_laws.specs.declared.standing.Standing.{Standing}
use Rattle.match_laws.specs.declared.rows.{BattingRow.BattingRow, BowlingRow.BowlingRow}
use Rattle.match_laws.specs.History.{begun, side_of, side_eq, opponent}
use Rattle.match_laws.specs.Figures.{total, wickets, overs, balls}
use Rattle.match_laws.specs.Parts.{batting_row_of, bowling_row_of}
use Rattle.match_laws.specs.Result.{current}
use Rattle.match_laws.specs.Stands.{ForEachHistory}
use Rattle.cards.specs.Sheet.{Sheet}
use Rattle.changes.specs.declared.{stage.Total.Total, stage.Batter.Batter, stages.Stages.Stages}

-- a stage: the innings a side, and the history
pub record Stage : Type 0 where
  pub innings_a_side : ℕ
  pub history : History

-- a fact about every two stages that these matches stand at
abbrev pub ForBoth : Standing → Standing → (Stage → Stage → Type 0) → Type 0
ForBoth was now P =
    ForEachHistory was (λ m g. ForEachHistory now (λ n h.
    P (record { innings_a_side = m; history = g }) (record { innings_a_side = n; history = h })))

-- a fact about the sheet, and every two stages that the matches stand at
abbrev pub ForStages : Stages → (Sheet → Stage → Stage → Type 0) → Type 0
ForStages stages P = ForBoth stages.before.now stages.after.now (P stages.sheet.now)

-- the side bats in innings i, if that has begun; the side fields in it
abbrev pub is_batting_in : History → ℕ → Side → Bool
is_batting_in h i side = nat_lt i (begun h) && side_eq (side_of h i) side

abbrev pub is_fielding_in : History → ℕ → Side → Bool
is_fielding_in h i side = nat_lt i (begun h) && side_eq (opponent (side_of h i)) side

-- the figures of a player who hasn't batted, and of one who hasn't bowled
abbrev pub no_batting : BattingRow
no_batting = record { runs = 0; faced = 0; fours = 0; sixes = 0; fate = None }

abbrev pub no_bowling : BowlingRow
no_bowling = record { overs = 0; balls = 0; maidens = 0; runs = 0; wickets = 0; wides = 0; noballs = 0 }

-- the figures of the side's player p in innings i
abbrev pub batting_in : History → ℕ → Side → ℕ → BattingRow
batting_in h i side p = if is_batting_in h i side then batting_row_of h i p else no_batting

abbrev pub bowling_in : History → ℕ → Side → ℕ → BowlingRow
bowling_in h i side p = if is_fielding_in h i side then bowling_row_of h i p else no_bowling

-- how the side's innings stands, if it has begun
abbrev pub total_of : History → ℕ → Total
total_of h i = record { total = total h i; wickets = wickets h i; overs = overs h i; balls = balls h i }

abbrev pub total_in : History → ℕ → Side → Option Total
total_in h i side = if is_batting_in h i side then Some (total_of h i) else None

-- the batter who has the strike
abbrev pub batter_of : Side → ℕ → Batter
batter_of side p = record { side = side; player = p }

abbrev pub striker : History → Option Batter
striker h =
    if begun h == 0 then None
    else option_map (batter_of (side_of h (current h))) (state_after h).ends.striker
