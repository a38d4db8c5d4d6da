-- The export's `info`: facts about the match. s is the sheet, info its table [info], and given the fields copied from info.
use Rattle.std.specs.Prelude.{ℕ, ◌+◌, Bool, false, if◌then◌else◌, bytes_eq, List, [], ◌∷◌, ◌++◌, Option, Some, None, option_and_then, codes}
use Rattle.std.specs.List.{list_any}
use Rattle.notation.specs.declared.entry.Side.{Side}
use Rattle.notation.specs.declared.entry.Side.TheVariants.{Home, Away}
use Rattle.ball_laws.specs.History.{History}
use Rattle.match_laws.specs.declared.outcome.Outcome.{Outcome}
use Rattle.match_laws.specs.declared.outcome.Outcome.TheVariants.{Undecided, Draw, Tie, Runs, Wickets, InningsAnd, PenaltyRuns}
use Rattle.match_laws.specs.Result.{outcome}
use Rattle.limits.specs.Limits.{overs_for}
use Rattle.cards.specs.Sheet.{Sheet, name_of, player_of}
use Rattle.toml.specs.Data.{Data, Members, get_member, string as text}
use Rattle.json.specs.Json.{Json, string}
use Rattle.json_fields.specs.Values.{Field, array_of, object_of, text_field, number_field, up_to}
use Rattle.export.specs.Given.{table_in}

abbrev pub event_field : Sheet → Field
event_field s = (codes "event", object_of (text_field (codes "name") s.title ∷ []))

abbrev pub has_event : List Field → Bool
has_event given = list_any (λ f. bytes_eq (codes "event") f.0) given

-- the title as the event, unless an event is copied from [info]
abbrev pub event_fields : Sheet → List Field → List Field
event_fields s given = if has_event given then [] else event_field s ∷ []

-- how many overs an innings has, where they are limited
abbrev pub overs_told : Option ℕ → List Field
overs_told None = []
overs_told (Some n) = number_field (codes "overs") n ∷ []

abbrev pub has_overs : List Field → Bool
has_overs given = list_any (λ f. bytes_eq (codes "overs") f.0) given

-- how many overs the first innings has, unless overs are copied from [info]
abbrev pub overs_fields : Sheet → List Field → List Field
overs_fields s given = if has_overs given then [] else overs_told (overs_for s.limits 0)

abbrev pub head_fields : Sheet → List Field → List Field
head_fields s given = event_fields s given ++ overs_fields s given

abbrev pub sides_of : Sheet → List Json
sides_of s = string (name_of s Home) ∷ [] ++ string (name_of s Away) ∷ []

abbrev pub teams_field : Sheet → Field
teams_field s = (codes "teams", array_of (sides_of s))

-- the eleven players of a side, in the order of their numbers
abbrev pub names_of : Sheet → Side → List Json
names_of s side = up_to (λ k. string (player_of s side (k + 1)) ∷ []) 11

-- a side's name with its players
abbrev pub team_field : Sheet → Side → Field
team_field s side = (name_of s side, array_of (names_of s side))

abbrev pub players_field : Sheet → Field
players_field s = (codes "players", object_of (team_field s Home ∷ [] ++ team_field s Away ∷ []))

-- the margin of a win by n runs or wickets
abbrev pub margin_field : List ℕ → ℕ → Field
margin_field unit n = (codes "by", object_of (number_field unit n ∷ []))

-- the margin of a win by an innings and n runs
abbrev pub innings_margin : ℕ → Field
innings_margin n =
    (codes "by", object_of (number_field (codes "runs") n ∷ [] ++ number_field (codes "innings") 1 ∷ []))

-- a method of winning other than by runs or wickets
abbrev pub method_field : List ℕ → Field
method_field method = text_field (codes "method") method

-- a side has won, with a field for how
abbrev pub win_field : Sheet → Side → Field → Field
win_field s side how = (codes "outcome", object_of (text_field (codes "winner") (name_of s side) ∷ [] ++ how ∷ []))

-- a result without a winner
abbrev pub result_field : List ℕ → Field
result_field word = (codes "outcome", object_of (text_field (codes "result") word ∷ []))

abbrev pub is_text : List ℕ → Option Data → Bool
is_text word (Some (text told)) = bytes_eq told word
is_text word _ = false

-- the value at a key of the `outcome` in the table [info]
abbrev pub outcome_at : List ℕ → Members → Option Data
outcome_at key info = option_and_then (get_member key) (table_in (codes "outcome") info)

-- the outcome's `result` is "no result"
abbrev pub has_no_result : Members → Bool
has_no_result info = is_text (codes "no result") (outcome_at (codes "result") info)

-- the result of a match that was closed before it was decided: a draw, unless the sheet says "no result"
abbrev pub closed_word : Members → List ℕ
closed_word info = if has_no_result info then codes "no result" else codes "draw"

-- the result of a match, where it has one
abbrev pub outcome_fields : Sheet → Members → Outcome → List Field
outcome_fields s info Undecided = []
outcome_fields s info Draw = result_field (closed_word info) ∷ []
outcome_fields s info Tie = result_field (codes "tie") ∷ []
outcome_fields s info (Runs side n) = win_field s side (margin_field (codes "runs") n) ∷ []
outcome_fields s info (Wickets side n) = win_field s side (margin_field (codes "wickets") n) ∷ []
outcome_fields s info (InningsAnd side n) = win_field s side (innings_margin n) ∷ []
outcome_fields s info (PenaltyRuns side) = win_field s side (method_field (codes "penalty runs")) ∷ []

-- the event, the overs of an innings, the sides, the players, balls an over, the outcome, and the fields copied from [info]
abbrev pub info_of : Sheet → History → Members → List Field → Json
info_of s h info given =
    object_of (head_fields s given
    ++ (teams_field s
    ∷ players_field s
    ∷ number_field (codes "balls_per_over") 6
    ∷ (outcome_fields s info (outcome s.innings h) ++ given)))

abbrev pub info_field : Sheet → History → Members → List Field → Field
info_field s h info given = (codes "info", info_of s h info given)
