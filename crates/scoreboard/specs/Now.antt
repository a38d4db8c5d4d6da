-- The current state of play: the batters and the bowler, this over and the last one, what is needed, the result, and what is
-- left. s is the sheet, n the innings a side and h the history.
use Rattle.std.specs.Prelude.{ℕ, List, [], ◌∷◌, ◌++◌, Option, Some, None, map, reverse, codes}
use Rattle.notation.specs.declared.entry.Ball.{Ball}
use Rattle.ball_laws.specs.History.{History, open_over, last_called_over}
use Rattle.ball_laws.specs.Laws.{state_after}
use Rattle.match_laws.specs.Result.{target, outcome}
use Rattle.corrections.specs.Overs.{bowler_now}
use Rattle.limits.specs.Figures.{runs_needed}
use Rattle.cards.specs.Sheet.{Sheet}
use Rattle.cards.specs.Results.{result_text}
use Rattle.json.specs.Json.{Json, null, string}
use Rattle.json_fields.specs.Values.{Field, array_of, object_of}
use Rattle.cards.specs.Marks.{mark_of}
use Rattle.scoreboard.specs.Limited.{number_or_null, situation_fields, situation_of}
use Rattle.scoreboard.specs.Stand.{partnership_field, partnership_now}

-- a text, or null if there is none
abbrev pub text_or_null : Option (List ℕ) → Json
text_or_null None = null
text_or_null (Some text) = string text

-- the deliveries of an over, the oldest first
abbrev pub over_value : List Ball → Json
over_value over = array_of (map (λ b. string (mark_of b)) over)

abbrev pub players_fields : History → List Field
players_fields h =
    (codes "striker", number_or_null (state_after h).ends.striker) ∷ []
    ++ (codes "other", number_or_null (state_after h).ends.other) ∷ []
    ++ (codes "bowler", number_or_null (bowler_now h)) ∷ []

-- this over and the last one, each with the oldest delivery first
abbrev pub overs_fields : List Ball → List Ball → List Field
overs_fields this last = (codes "this_over", over_value this) ∷ [] ++ (codes "last_over", over_value last) ∷ []

-- the open over and the over called last, while an innings is open
abbrev pub both_overs : History → List Field
both_overs h = overs_fields (reverse (open_over h)) (reverse (last_called_over h))

abbrev pub result_field : Sheet → ℕ → History → Field
result_field s n h = (codes "result", text_or_null (result_text s (outcome n h)))

abbrev pub result_fields : Sheet → ℕ → History → List Field
result_fields s n h =
    (codes "target", number_or_null (target n h)) ∷ []
    ++ (codes "needs", number_or_null (runs_needed n h)) ∷ []
    ++ result_field s n h ∷ []

abbrev pub now_value : Sheet → ℕ → History → Json
now_value s n h =
    object_of (players_fields h ++ both_overs h ++ result_fields s n h ++ situation_fields (situation_of s n h) ++ partnership_field (partnership_now h) ∷ [])
