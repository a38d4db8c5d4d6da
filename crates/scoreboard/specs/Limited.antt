-- What a board shows of the limits of the sheet, and of what follows from them. s is the sheet, n the innings a side, h the
-- history and i the innings.
use Rattle.std.specs.Prelude.{ℕ, ◌==◌, ◌&&◌, Bool, false, if◌then◌else◌, List, [], ◌∷◌, ◌++◌, Option, Some, None, map, codes}
use Rattle.ball_laws.specs.History.{History}
use Rattle.match_laws.specs.History.{begun, is_open}
use Rattle.match_laws.specs.Result.{current}
use Rattle.corrections.specs.Overs.{bowler_now}
use Rattle.limits.specs.declared.powerplay.Powerplay.{Powerplay}
use Rattle.limits.specs.Limits.{Limits, overs_for}
use Rattle.limits.specs.Rates.{an_over, a_ball, two_places}
use Rattle.limits.specs.Figures.{overs_left, deliveries_left, runs_needed, run_rate, last_rate, overs_bowled, is_free_hit, powerplay_now}
use Rattle.cards.specs.Sheet.{Sheet}
use Rattle.json.specs.Json.{Json, null, boolean, string}
use Rattle.json_fields.specs.Values.{Field, array_of, object_of, number_field, number_value}
use Rattle.scoreboard.specs.declared.situation.Situation.{Situation}

-- a number, or null if there is none
abbrev pub number_or_null : Option ℕ → Json
number_or_null None = null
number_or_null (Some n) = number_value n

-- a rate as a text with two decimals, or null if there is none
abbrev pub rate_or_null : Option ℕ → Json
rate_or_null None = null
rate_or_null (Some x) = string (two_places x)

-- ---- the limits of the sheet

abbrev pub powerplay_value : Powerplay → Json
powerplay_value p = object_of (number_field (codes "first") p.first ∷ [] ++ number_field (codes "last") p.last ∷ [])

abbrev pub limits_value : Limits → Json
limits_value l =
    object_of ((codes "overs", array_of (map number_value l.overs)) ∷ []
    ++ (codes "overs_a_bowler", number_or_null l.overs_a_bowler) ∷ []
    ++ (codes "free_hits", boolean l.free_hits) ∷ []
    ++ (codes "powerplays", array_of (map powerplay_value l.powerplays)) ∷ [])

-- ---- what follows from them

-- the number of overs of the innings, while it is open
abbrev pub overs_open : Sheet → History → ℕ → Option ℕ
overs_open s h i = if is_open h then overs_for s.limits i else None

-- how many overs and deliveries are left of n overs
abbrev pub overs_in : History → ℕ → Option ℕ → Option ℕ
overs_in h i None = None
overs_in h i (Some n) = Some (overs_left n h i)

abbrev pub balls_in : History → ℕ → Option ℕ → Option ℕ
balls_in h i None = None
balls_in h i (Some n) = Some (deliveries_left n h i)

-- the rate of these runs off these deliveries, if both are known
abbrev pub rate_of : (ℕ → ℕ → Option ℕ) → Option ℕ → Option ℕ → Option ℕ
rate_of rate None left = None
rate_of rate (Some runs) None = None
rate_of rate (Some runs) (Some left) = rate runs left

-- in how many overs the bowler has bowled
abbrev pub bowled_by : History → Option ℕ → Option ℕ
bowled_by h None = None
bowled_by h (Some p) = Some (overs_bowled p h)

-- the next delivery is a free hit
abbrev pub is_free_now : Sheet → History → Bool
is_free_now s h = s.limits.free_hits && is_free_hit h

abbrev pub situation_in : Sheet → ℕ → History → ℕ → Situation
situation_in s n h i = record {
  overs = overs_open s h i;
  overs_left = overs_in h i (overs_open s h i);
  balls_left = balls_in h i (overs_open s h i);
  needed_an_over = rate_of an_over (runs_needed n h) (balls_in h i (overs_open s h i));
  needed_a_ball = rate_of a_ball (runs_needed n h) (balls_in h i (overs_open s h i));
  run_rate = run_rate h i;
  last_rate = last_rate h;
  free_hit = is_free_now s h;
  powerplay = powerplay_now s.limits h i;
  bowler_overs = bowled_by h (bowler_now h);
}

abbrev pub no_situation : Situation
no_situation = record {
  overs = None;
  overs_left = None;
  balls_left = None;
  needed_an_over = None;
  needed_a_ball = None;
  run_rate = None;
  last_rate = None;
  free_hit = false;
  powerplay = None;
  bowler_overs = None;
}

-- what follows for the innings that began last
abbrev pub situation_of : Sheet → ℕ → History → Situation
situation_of s n h = if begun h == 0 then no_situation else situation_in s n h (current h)

abbrev pub left_fields : Situation → List Field
left_fields t =
    (codes "overs", number_or_null t.overs) ∷ []
    ++ (codes "overs_left", number_or_null t.overs_left) ∷ []
    ++ (codes "balls_left", number_or_null t.balls_left) ∷ []

abbrev pub rate_fields : Situation → List Field
rate_fields t =
    (codes "needed_an_over", rate_or_null t.needed_an_over) ∷ []
    ++ (codes "needed_a_ball", rate_or_null t.needed_a_ball) ∷ []
    ++ (codes "run_rate", rate_or_null t.run_rate) ∷ []
    ++ (codes "last_rate", rate_or_null t.last_rate) ∷ []

abbrev pub play_fields : Situation → List Field
play_fields t =
    (codes "free_hit", boolean t.free_hit) ∷ []
    ++ (codes "powerplay", number_or_null t.powerplay) ∷ []
    ++ (codes "bowler_overs", number_or_null t.bowler_overs) ∷ []

abbrev pub situation_fields : Situation → List Field
situation_fields t = left_fields t ++ rate_fields t ++ play_fields t
