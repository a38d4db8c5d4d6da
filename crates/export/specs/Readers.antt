-- What a reader of an export sums up for its players, by the names in its deliveries. h is the history, i the innings, and
-- p a player.
use Rattle.std.specs.Prelude.{◌≡◌, ℕ, ◌+◌, ◌*◌, ◌==◌, nat_lt, Bool, true, false, not, ◌&&◌, bytes_eq, if◌then◌else◌, List, [], ◌∷◌, codes}
use Rattle.std.specs.List.{list_all, list_any}
use Rattle.std.specs.Str.Parse.{digits_value}
use Rattle.notation.specs.declared.entry.{Side.Side, Ball.Ball, Entry.Entry}
use Rattle.ball_laws.specs.History.{History}
use Rattle.ball_laws.specs.Over.{counting, debit, is_wide_or_no_ball}
use Rattle.ball_laws.specs.Runs.{is_six, is_struck}
use Rattle.ball_laws.specs.Sums.{tally, count_of, one_if}
use Rattle.match_laws.specs.declared.score.Extras.{Extras}
use Rattle.match_laws.specs.History.{deliveries, innings_overs, opponent, side_of, since_call}
use Rattle.match_laws.specs.Figures.{alone, balls, batter_runs, batting_order, bowler_balls, bowler_noballs, bowler_overs}
use Rattle.match_laws.specs.Figures.{bowler_runs, bowler_wickets, bowler_wides, bowling_order, faced, fours}
use Rattle.match_laws.specs.Figures.{is_four, is_maiden, maidens, odd_overs, of_bowler, of_innings, of_striker, overs, sixes}
use Rattle.match_laws.specs.Parts.{extras_of}
use Rattle.corrections.specs.CleanList.{history_of}
use Rattle.cards.specs.Sheet.{Sheet, player_of}
use Rattle.json.specs.Json.{Json, boolean, number}
use Rattle.export.specs.Laws.{at, deliveries_in, innings_at, is_text, values_of, wickets_of}

-- ---- what a reader takes from a delivery

-- a JSON number's value: 0, where the value is no number
abbrev pub number_in : Json → ℕ
number_in (number text) = digits_value 10 text
number_in _ = 0

abbrev pub is_set : Json → Bool
is_set (boolean holds) = holds
is_set _ = false

abbrev pub bat_runs : Json → ℕ
bat_runs delivery = number_in (at (codes "batter") (at (codes "runs") delivery))

abbrev pub wides_in : Json → ℕ
wides_in delivery = number_in (at (codes "wides") (at (codes "extras") delivery))

abbrev pub noballs_in : Json → ℕ
noballs_in delivery = number_in (at (codes "noballs") (at (codes "extras") delivery))

abbrev pub byes_in : Json → ℕ
byes_in delivery = number_in (at (codes "byes") (at (codes "extras") delivery))

abbrev pub legs_in : Json → ℕ
legs_in delivery = number_in (at (codes "legbyes") (at (codes "extras") delivery))

abbrev pub penalty_in : Json → ℕ
penalty_in delivery = number_in (at (codes "penalty") (at (codes "extras") delivery))

-- 1 for a ball that the batter faced, which is any but a wide
abbrev pub faced_in : Json → ℕ
faced_in delivery = one_if (wides_in delivery == 0)

-- 1 for a ball that counts for the bowler: neither a wide nor a no-ball
abbrev pub bowled_in : Json → ℕ
bowled_in delivery = one_if ((wides_in delivery == 0) && (noballs_in delivery == 0))

-- 1 for n runs off the bat that aren't marked as no boundary
abbrev pub boundary_in : ℕ → Json → ℕ
boundary_in n delivery =
    one_if ((bat_runs delivery == n) && not (is_set (at (codes "non_boundary") (at (codes "runs") delivery))))

-- the runs debited to the bowler: all but byes, leg byes and penalty runs
abbrev pub debited_in : Json → ℕ
debited_in delivery = bat_runs delivery + wides_in delivery + noballs_in delivery

-- the kinds of wickets that are credited to the bowler
abbrev pub credited_kinds : List (List ℕ)
credited_kinds =
    codes "bowled" ∷ codes "caught" ∷ codes "caught and bowled" ∷ codes "lbw" ∷ codes "stumped" ∷ codes "hit wicket" ∷ []

abbrev pub is_credited : Json → Bool
is_credited wicket = list_any (λ kind. is_text kind (at (codes "kind") wicket)) credited_kinds

abbrev pub credited_in : Json → ℕ
credited_in delivery = count_of is_credited (wickets_of delivery)

-- the sum of a number over the deliveries that have this name at the key
abbrev pub summed : List ℕ → (Json → ℕ) → List ℕ → Json → ℕ
summed key f name innings =
    tally (λ delivery. if is_text name (at key delivery) then f delivery else 0) (deliveries_in innings)

-- the sum of a number over all deliveries
abbrev pub all_summed : (Json → ℕ) → Json → ℕ
all_summed f innings = tally f (deliveries_in innings)

-- the penalty runs that no delivery carries
abbrev pub penalty_besides : Json → ℕ
penalty_besides innings =
    let there = at (codes "penalty_runs") innings in number_in (at (codes "pre") there) + number_in (at (codes "post") there)

-- how many overs there are of which each delivery passes a test
abbrev pub overs_with : (Json → Bool) → Json → ℕ
overs_with test innings =
    count_of (λ over. list_all test (values_of (at (codes "deliveries") over))) (values_of (at (codes "overs") innings))

-- the overs that a bowler of this name bowled alone, and of these the maidens
abbrev pub overs_by : List ℕ → Json → ℕ
overs_by name = overs_with (λ delivery. is_text name (at (codes "bowler") delivery))

abbrev pub maidens_by : List ℕ → Json → ℕ
maidens_by name = overs_with (λ delivery. is_text name (at (codes "bowler") delivery) && (debited_in delivery == 0))

-- ---- what a card has that a reader doesn't see, and the other way round

-- a four on which more than four were run, and a six on which more than six were, count what was run: so a reader can't tell
-- them from runs
abbrev pub four_outrun : Ball → ℕ
four_outrun b = one_if (is_struck b.kind && (is_four b.bound && nat_lt 4 b.ran))

abbrev pub six_outrun : Ball → ℕ
six_outrun b = one_if (is_struck b.kind && (is_six b.bound && nat_lt 6 b.ran))

abbrev pub fours_outrun : History → ℕ → ℕ → ℕ
fours_outrun h i p = tally (of_striker four_outrun i p) (deliveries h)

abbrev pub sixes_outrun : History → ℕ → ℕ → ℕ
sixes_outrun h i p = tally (of_striker six_outrun i p) (deliveries h)

-- a ball that is ruled dead doesn't count in the over, but no delivery shows that it was dead
abbrev pub dead_ball : Ball → ℕ
dead_ball b = one_if (b.dead && not (is_wide_or_no_ball b.kind))

abbrev pub dead_balls : History → ℕ → ℕ → ℕ
dead_balls h i p = tally (of_bowler dead_ball i p) (deliveries h)

abbrev pub all_dead : History → ℕ → ℕ
all_dead h i = tally (of_innings dead_ball i) (deliveries h)

-- the over whose end wasn't called: a reader takes it for a whole over
abbrev pub open_over : History → ℕ → ℕ → ℕ
open_over h i p = one_if (alone p (since_call h i))

abbrev pub open_maiden : History → ℕ → ℕ → ℕ
open_maiden h i p = one_if (is_maiden p (since_call h i))

-- an over that several players bowled, who all have this name: a reader takes them for one player
abbrev pub is_several : List Ball → Bool
is_several [] = false
is_several (b ∷ bs) = not (alone b.bowler (b ∷ bs))

abbrev pub is_namesakes : Sheet → Side → List ℕ → List Ball → Bool
is_namesakes s side name over = is_several over && list_all (λ b. bytes_eq name (player_of s side b.bowler)) over

abbrev pub namesakes_overs : Sheet → History → ℕ → List ℕ → ℕ
namesakes_overs s h i name = count_of (is_namesakes s (opponent (side_of h i)) name) (since_call h i ∷ innings_overs h i)

abbrev pub namesakes_maidens : Sheet → History → ℕ → List ℕ → ℕ
namesakes_maidens s h i name =
    count_of (λ over. is_namesakes s (opponent (side_of h i)) name over && (debit over == 0)) (since_call h i ∷ innings_overs h i)

-- the balls that count in the called overs that p bowled alone; a card has the number of these overs
abbrev pub over_balls : History → ℕ → ℕ → ℕ
over_balls h i p = tally (λ over. if alone p over then counting over else 0) (innings_overs h i)

-- ---- the laws

-- the sum of a figure over the card's players of this name
abbrev pub of_name : Sheet → Side → List ℕ → List ℕ → (ℕ → ℕ) → ℕ
of_name s side name order figure = tally (λ p. if bytes_eq name (player_of s side p) then figure p else 0) order

abbrev pub of_batters : Sheet → History → ℕ → List ℕ → (History → ℕ → ℕ → ℕ) → ℕ
of_batters s h i name figure = of_name s (side_of h i) name (batting_order h i) (figure h i)

abbrev pub of_bowlers : Sheet → History → ℕ → List ℕ → (History → ℕ → ℕ → ℕ) → ℕ
of_bowlers s h i name figure = of_name s (opponent (side_of h i)) name (bowling_order h i) (figure h i)

-- the sums for a batter's name are the figures of the card
pub record BatterAddsUp (s : Sheet) (h : History) (i : ℕ) (innings : Json) (name : List ℕ) : Type 0 where
  pub runs : summed (codes "batter") bat_runs name innings ≡ of_batters s h i name batter_runs
  pub balls : summed (codes "batter") faced_in name innings ≡ of_batters s h i name faced
  pub fours : summed (codes "batter") (boundary_in 4) name innings + of_batters s h i name fours_outrun ≡ of_batters s h i name fours
  pub sixes : summed (codes "batter") (boundary_in 6) name innings + of_batters s h i name sixes_outrun ≡ of_batters s h i name sixes

-- the sums for a bowler's name are the figures of the card: his balls are those of the overs that he bowled alone, his balls
-- in other overs, and dead balls; his overs and maidens are those that were called, the open one, and those of namesakes
pub record BowlerAddsUp (s : Sheet) (h : History) (i : ℕ) (innings : Json) (name : List ℕ) : Type 0 where
  pub balls : summed (codes "bowler") bowled_in name innings
      ≡ of_bowlers s h i name over_balls + of_bowlers s h i name bowler_balls + of_bowlers s h i name dead_balls
  pub runs : summed (codes "bowler") debited_in name innings ≡ of_bowlers s h i name bowler_runs
  pub wickets : summed (codes "bowler") credited_in name innings ≡ of_bowlers s h i name bowler_wickets
  pub wides : summed (codes "bowler") wides_in name innings ≡ of_bowlers s h i name bowler_wides
  pub noballs : summed (codes "bowler") noballs_in name innings ≡ of_bowlers s h i name bowler_noballs
  pub overs : overs_by name innings
      ≡ of_bowlers s h i name bowler_overs + of_bowlers s h i name open_over + namesakes_overs s h i name
  pub maidens : maidens_by name innings
      ≡ of_bowlers s h i name maidens + of_bowlers s h i name open_maiden + namesakes_maidens s h i name

-- the sums over all deliveries are the innings' extras, with the penalty runs that no delivery carries
pub record ExtrasAddUp (x : Extras) (innings : Json) : Type 0 where
  pub wides : all_summed wides_in innings ≡ x.wides
  pub noballs : all_summed noballs_in innings ≡ x.noballs
  pub byes : all_summed byes_in innings ≡ x.byes
  pub legs : all_summed legs_in innings ≡ x.legs
  pub penalty : all_summed penalty_in innings + penalty_besides innings ≡ x.penalty

abbrev pub EachExtraAddsUp : Sheet → List Entry → Type 0
EachExtraAddsUp s book = (i : ℕ) → ExtrasAddUp (extras_of (history_of book) i) (innings_at s book i)

-- where each over had six balls, the innings' balls are those of its called overs, those since, and dead balls
abbrev pub BallsAddUp : Sheet → List Entry → Type 0
BallsAddUp s book =
    let h = history_of book in
    (i : ℕ) → odd_overs h i ≡ 0 → all_summed bowled_in (innings_at s book i) ≡ 6 * overs h i + balls h i + all_dead h i

abbrev pub BattersAddUp : Sheet → List Entry → Type 0
BattersAddUp s book =
    (i : ℕ) (name : List ℕ) → BatterAddsUp s (history_of book) i (innings_at s book i) name

abbrev pub BowlersAddUp : Sheet → List Entry → Type 0
BowlersAddUp s book =
    (i : ℕ) (name : List ℕ) → BowlerAddsUp s (history_of book) i (innings_at s book i) name

-- where each over had six balls, so has each of the called overs that p bowled alone
abbrev pub OversAreSixes : History → Type 0
OversAreSixes h = (i p : ℕ) → odd_overs h i ≡ 0 → over_balls h i p ≡ 6 * bowler_overs h i p

-- p is one of the players of a card, and no other of them has his name
pub record HasOwnName (s : Sheet) (side : Side) (order : List ℕ) (p : ℕ) : Type 0 where
  pub listed : list_any (λ q. q == p) order ≡ true
  pub own : (q : ℕ) → list_any (λ r. r == q) order ≡ true → player_of s side q ≡ player_of s side p → q ≡ p

-- where p has his own name, the sum over the card's players of that name is his own figure
pub record NamesTellPlayers (s : Sheet) (h : History) (i p : ℕ) (figure : History → ℕ → ℕ → ℕ) : Type 0 where
  pub batters : HasOwnName s (side_of h i) (batting_order h i) p → of_batters s h i (player_of s (side_of h i) p) figure ≡ figure h i p
  pub bowlers : HasOwnName s (opponent (side_of h i)) (bowling_order h i) p → of_bowlers s h i (player_of s (opponent (side_of h i)) p) figure ≡ figure h i p
