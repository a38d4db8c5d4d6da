-- Worked sums: what the definitions give for two books.
use Rattle.std.specs.Prelude.{◌≡◌, ℕ, true, List, [], ◌∷◌, ◌++◌, map, codes}
use Rattle.notation.specs.declared.entry.Side.TheVariants.{Home}
use Rattle.notation.specs.declared.entry.Kind.TheVariants.{Bat, Bye, Leg, Wide, Nb}
use Rattle.notation.specs.declared.entry.Bound.TheVariants.{Four, Six, Overthrow}
use Rattle.notation.specs.declared.entry.How.TheVariants.{Caught, RunOut}
use Rattle.notation.specs.declared.entry.Who.TheVariants.{Striker, Other}
use Rattle.notation.specs.declared.entry.Leave.TheVariants.{RetiredHurt}
use Rattle.notation.specs.declared.entry.Plain.TheVariants.{Innings, Come, Ball as Bowl, Gone, Over, Penalty}
use Rattle.notation.specs.declared.entry.Entry.{Entry}
use Rattle.notation.specs.declared.entry.Entry.TheVariants.{Write, Fix}
use Rattle.ball_laws.specs.Worked.{ball, with_bound, with_crossed_out, with_out, with_short}
use Rattle.match_laws.specs.Figures.{bowler_balls, bowler_overs, maidens}
use Rattle.corrections.specs.CleanList.{history_of}
use Rattle.cards.specs.Sheet.{Sheet, plain_players, plain_sheet}
use Rattle.json.specs.Json.{Json, string}
use Rattle.json_fields.specs.Values.{number_value}
use Rattle.export.specs.Falls.{falls_of}
use Rattle.export.specs.Laws.{at, innings_at}
use Rattle.export.specs.Readers.{all_summed, bat_runs, boundary_in, bowled_in, byes_in, credited_in, dead_balls, debited_in}
use Rattle.export.specs.Readers.{faced_in, fours_outrun, legs_in, maidens_by, namesakes_overs, noballs_in, open_maiden, over_balls}
use Rattle.export.specs.Readers.{overs_by, penalty_besides, penalty_in, sixes_outrun, summed, wides_in}

-- the first innings in the export of a book, with players called by their numbers
abbrev pub first_innings : List Entry → Json
first_innings book = innings_at (plain_sheet 0 1) book 0

-- a batter's runs, balls, fours and sixes
abbrev pub batter_sums : List Entry → List ℕ → List ℕ
batter_sums book name =
    map (λ f. summed (codes "batter") f name (first_innings book)) (bat_runs ∷ faced_in ∷ boundary_in 4 ∷ boundary_in 6 ∷ [])

-- a bowler's balls, runs, wickets, wides and no-balls
abbrev pub bowler_sums : List Entry → List ℕ → List ℕ
bowler_sums book name =
    map (λ f. summed (codes "bowler") f name (first_innings book)) (bowled_in ∷ debited_in ∷ credited_in ∷ wides_in ∷ noballs_in ∷ [])

-- wides, no-balls, byes, leg byes and penalty runs of all deliveries, and the penalty runs that none carries
abbrev pub extra_sums : List Entry → List ℕ
extra_sums book =
    map (λ f. f (first_innings book))
    (map all_summed (wides_in ∷ noballs_in ∷ byes_in ∷ legs_in ∷ penalty_in ∷ []) ++ penalty_besides ∷ [])

-- the value at a key of each fall
abbrev pub of_falls : List ℕ → List Entry → List Json
of_falls key book = map (at key) (falls_of (plain_sheet 0 1) (history_of book) 0)

-- `examples/two-overs.txt`
abbrev pub two_overs : List Entry
two_overs =
    Write (Innings Home) ∷ Write (Come 1) ∷ Write (Come 2)
    ∷ Write (Bowl (ball 7 Bat 1))
    ∷ Write (Bowl (with_bound Four (ball 7 Bat 0)))
    ∷ Write (Bowl (ball 7 Wide 0))
    ∷ Write (Bowl (ball 7 Bye 1))
    ∷ Write (Bowl (ball 7 Bat 0))
    ∷ Write (Bowl (with_bound Six (ball 7 Nb 0)))
    ∷ Write (Bowl (with_short 1 (ball 7 Bat 2)))
    ∷ Write (Bowl (ball 7 Bat 0))
    ∷ Write Over
    ∷ Write (Bowl (with_out Caught Striker 5 (ball 8 Bat 0)))
    ∷ Write (Come 3)
    ∷ Write (Bowl (ball 8 Leg 1))
    ∷ Write (Bowl (with_crossed_out RunOut Other 4 (ball 8 Bat 1)))
    ∷ Write (Come 4) ∷ Write (Gone RetiredHurt 4) ∷ Write (Come 5)
    ∷ Write (Bowl (ball 8 Bat 3))
    ∷ Write (Bowl (ball 8 Bat 0))
    ∷ Write (Bowl (ball 8 Bat 0))
    ∷ Write Over
    ∷ Fix 3 (Bowl (ball 7 Bat 2))
    ∷ []

-- a four on which five were run, six runs with an overthrow, seven run on a six, a dead ball with penalty runs after it, and
-- an over of five
abbrev pub odd_balls : List Entry
odd_balls =
    Write (Innings Home) ∷ Write (Come 1) ∷ Write (Come 2)
    ∷ Write (Bowl (with_bound Four (ball 7 Bat 4)))
    ∷ Write (Bowl (with_bound Four (ball 7 Bat 5)))
    ∷ Write (Bowl (with_bound Overthrow (ball 7 Bat 2)))
    ∷ Write (Bowl (with_bound Six (ball 7 Nb 7)))
    ∷ Write (Bowl (record (ball 7 Bat 4) { dead = true }))
    ∷ Write (Penalty Home 41 5)
    ∷ Write (Bowl (with_out Caught Striker 7 (ball 7 Bat 0)))
    ∷ Write (Come 3)
    ∷ Write (Bowl (ball 7 Leg 4))
    ∷ Write Over
    ∷ []

-- penalty runs before the first delivery, a maiden, an over that both bowlers bowled, and one ball of the next
abbrev pub dot_balls : List Entry
dot_balls =
    Write (Innings Home) ∷ Write (Penalty Home 41 5) ∷ Write (Come 1) ∷ Write (Come 2)
    ∷ Write (Bowl (ball 7 Bat 0)) ∷ Write (Bowl (ball 7 Leg 1)) ∷ Write (Bowl (ball 7 Bat 0))
    ∷ Write (Bowl (ball 7 Bat 0)) ∷ Write (Bowl (ball 7 Bat 0)) ∷ Write (Bowl (ball 7 Bat 0))
    ∷ Write Over
    ∷ Write (Bowl (ball 8 Bat 0)) ∷ Write (Bowl (ball 8 Bat 0)) ∷ Write (Bowl (ball 8 Bat 0))
    ∷ Write (Bowl (ball 9 Bat 0)) ∷ Write (Bowl (ball 9 Bat 0)) ∷ Write (Bowl (ball 9 Bat 0))
    ∷ Write Over
    ∷ Write (Bowl (ball 7 Bat 0))
    ∷ []

-- the same, where each player of the away side has one name
abbrev pub namesakes : Sheet
namesakes = record (plain_sheet 0 1) { away = record { name = codes "away"; players = map (λ p. codes "A") plain_players } }

pub record WorkedSums : Type 0 where
  pub first_batter : batter_sums two_overs (codes "1") ≡ 10 ∷ 6 ∷ 1 ∷ 0 ∷ []
  pub second_batter : batter_sums two_overs (codes "2") ≡ 8 ∷ 4 ∷ 0 ∷ 1 ∷ []
  pub third_batter : batter_sums two_overs (codes "3") ≡ 0 ∷ 1 ∷ 0 ∷ 0 ∷ []
  pub nobody : batter_sums two_overs (codes "6") ≡ 0 ∷ 0 ∷ 0 ∷ 0 ∷ []
  pub first_bowler : bowler_sums two_overs (codes "7") ≡ 6 ∷ 16 ∷ 0 ∷ 1 ∷ 1 ∷ []
  pub second_bowler : bowler_sums two_overs (codes "8") ≡ 6 ∷ 4 ∷ 1 ∷ 0 ∷ 0 ∷ []
  pub outran : batter_sums odd_balls (codes "1") ≡ 13 ∷ 4 ∷ 1 ∷ 0 ∷ []
  pub outran_fours : fours_outrun (history_of odd_balls) 0 1 ≡ 1
  pub overthrown : batter_sums odd_balls (codes "2") ≡ 13 ∷ 2 ∷ 0 ∷ 0 ∷ []
  pub outran_sixes : sixes_outrun (history_of odd_balls) 0 2 ≡ 1
  pub dead_one : bowler_sums odd_balls (codes "7") ≡ 6 ∷ 27 ∷ 1 ∷ 0 ∷ 1 ∷ []
  pub dead_ones : dead_balls (history_of odd_balls) 0 7 ≡ 1
  pub own_over : over_balls (history_of odd_balls) 0 7 ≡ 5
  pub one_over : bowler_overs (history_of odd_balls) 0 7 ≡ 1
  pub no_ball_more : bowler_balls (history_of odd_balls) 0 7 ≡ 0
  pub extras : extra_sums two_overs ≡ 1 ∷ 1 ∷ 1 ∷ 1 ∷ 0 ∷ 0 ∷ []
  pub extras_after : extra_sums odd_balls ≡ 0 ∷ 1 ∷ 0 ∷ 4 ∷ 5 ∷ 0 ∷ []
  pub extras_before : extra_sums dot_balls ≡ 0 ∷ 0 ∷ 0 ∷ 1 ∷ 0 ∷ 5 ∷ []
  pub overs_told : overs_by (codes "7") (first_innings dot_balls) ≡ 2
  pub maidens_told : maidens_by (codes "7") (first_innings dot_balls) ≡ 2
  pub maidens_called : maidens (history_of dot_balls) 0 7 ≡ 1
  pub maiden_open : open_maiden (history_of dot_balls) 0 7 ≡ 1
  pub over_of_two : overs_by (codes "8") (first_innings dot_balls) ≡ 0
  pub overs_of_namesakes : overs_by (codes "A") (innings_at namesakes dot_balls 0) ≡ 3
  pub over_of_namesakes : namesakes_overs namesakes (history_of dot_balls) 0 (codes "A") ≡ 1
  pub no_maiden : maidens_by (codes "7") (first_innings two_overs) ≡ 0
  pub fall_overs : of_falls (codes "overs") two_overs ≡ string (codes "1.1") ∷ string (codes "1.3") ∷ []
  pub fall_runs : of_falls (codes "runs") two_overs ≡ number_value 17 ∷ number_value 19 ∷ []
  pub fallen : of_falls (codes "player") two_overs ≡ number_value 2 ∷ number_value 3 ∷ []
  pub past_a_dead_one : of_falls (codes "overs") odd_balls ≡ string (codes "0.4") ∷ []
