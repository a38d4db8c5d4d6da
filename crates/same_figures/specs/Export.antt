-- What the deliveries of an innings in an export add up to, where the innings has the figures f. s is the sheet. What a reader
-- can't tell is named by the history h and the number i of the innings.
use Rattle.std.specs.Prelude.{◌≡◌, ◌≢◌, ℕ, ◌+◌, ◌*◌, List, [], codes}
use Rattle.ball_laws.specs.History.{History}
use Rattle.match_laws.specs.declared.{rows.BattingRow.BattingRow, rows.BowlingRow.BowlingRow}
use Rattle.match_laws.specs.History.{opponent}
use Rattle.match_laws.specs.Figures.{odd_overs}
use Rattle.cards.specs.Sheet.{Sheet}
use Rattle.json.specs.Json.{Json}
use Rattle.export.specs.Falls.{fall_value, falls_from}
use Rattle.export.specs.Laws.{AddsUpTo, deliveries_in, fallen_in}
use Rattle.export.specs.Readers.{ExtrasAddUp, all_dead, all_summed, bat_runs, boundary_in, bowled_in, credited_in, dead_balls, debited_in}
use Rattle.export.specs.Readers.{faced_in, fours_outrun, maidens_by, namesakes_maidens, namesakes_overs, noballs_in, of_name, open_maiden}
use Rattle.export.specs.Readers.{open_over, over_balls, overs_by, sixes_outrun, summed, wides_in}
use Rattle.same_figures.specs.Figures.{Figures}

-- a figure of all batters of a name, and of all bowlers
abbrev pub of_batters : Sheet → Figures → List ℕ → (BattingRow → ℕ) → ℕ
of_batters s f name figure = of_name s f.side name f.batters (λ p. figure (f.batter p))

abbrev pub of_bowlers : Sheet → Figures → List ℕ → (BowlingRow → ℕ) → ℕ
of_bowlers s f name figure = of_name s (opponent f.side) name f.bowlers (λ p. figure (f.bowler p))

-- what a reader can't tell of these batters or bowlers
abbrev pub untold_batters : Sheet → History → ℕ → Figures → List ℕ → (History → ℕ → ℕ → ℕ) → ℕ
untold_batters s h i f name untold = of_name s f.side name f.batters (untold h i)

abbrev pub untold_bowlers : Sheet → History → ℕ → Figures → List ℕ → (History → ℕ → ℕ → ℕ) → ℕ
untold_bowlers s h i f name untold = of_name s (opponent f.side) name f.bowlers (untold h i)

-- what the deliveries of a name add up to, as `batter`; fours and sixes on which more was run than they count look like runs
pub record TellsBatters (s : Sheet) (h : History) (i : ℕ) (f : Figures) (innings : Json) (name : List ℕ) : Type 0 where
  pub runs : summed (codes "batter") bat_runs name innings ≡ of_batters s f name (λ row. row.runs)
  pub balls : summed (codes "batter") faced_in name innings ≡ of_batters s f name (λ row. row.faced)
  pub fours : summed (codes "batter") (boundary_in 4) name innings + untold_batters s h i f name fours_outrun ≡ of_batters s f name (λ row. row.fours)
  pub sixes : summed (codes "batter") (boundary_in 6) name innings + untold_batters s h i f name sixes_outrun ≡ of_batters s f name (λ row. row.sixes)

-- and as `bowler`: an over that wasn't called looks like a whole one, one of namesakes like one bowler's, and a dead ball like any
pub record TellsBowlers (s : Sheet) (h : History) (i : ℕ) (f : Figures) (innings : Json) (name : List ℕ) : Type 0 where
  pub runs : summed (codes "bowler") debited_in name innings ≡ of_bowlers s f name (λ row. row.runs)
  pub wickets : summed (codes "bowler") credited_in name innings ≡ of_bowlers s f name (λ row. row.wickets)
  pub wides : summed (codes "bowler") wides_in name innings ≡ of_bowlers s f name (λ row. row.wides)
  pub noballs : summed (codes "bowler") noballs_in name innings ≡ of_bowlers s f name (λ row. row.noballs)
  pub overs : overs_by name innings
      ≡ of_bowlers s f name (λ row. row.overs) + untold_bowlers s h i f name open_over + namesakes_overs s h i name
  pub maidens : maidens_by name innings
      ≡ of_bowlers s f name (λ row. row.maidens) + untold_bowlers s h i f name open_maiden + namesakes_maidens s h i name
  pub balls : summed (codes "bowler") bowled_in name innings
      ≡ untold_bowlers s h i f name over_balls + of_bowlers s f name (λ row. row.balls) + untold_bowlers s h i f name dead_balls
  pub sixes : odd_overs h i ≡ 0 → untold_bowlers s h i f name over_balls ≡ 6 * of_bowlers s f name (λ row. row.overs)

-- the total, the extras of each kind and, where there is a delivery, the wickets that fell; where each over had six balls, the
-- balls of the innings; and what each name's deliveries add up to
pub record TellsFigures (s : Sheet) (h : History) (i : ℕ) (f : Figures) (innings : Json) : Type 0 where
  pub total : AddsUpTo innings f.total
  pub extras : ExtrasAddUp f.extras innings
  pub wickets : deliveries_in innings ≢ [] → fallen_in innings ≡ f.wickets
  pub balls : odd_overs h i ≡ 0 → all_summed bowled_in innings ≡ 6 * f.overs + f.balls + all_dead h i
  pub batters : (name : List ℕ) → TellsBatters s h i f innings name
  pub bowlers : (name : List ℕ) → TellsBowlers s h i f innings name

-- the falls of innings i, as they stand in it
abbrev pub falls_of : Sheet → ℕ → Figures → List Json
falls_of s i f = falls_from (fall_value s f.side i f.there) 0 f.falls
