-- The state of a match: a row that is fitted to its columns, and the rows below it. s is the sheet, n the innings a side, h
-- the history, i the innings and f the form of the row.
use Rattle.std.specs.Prelude.{ℕ, ◌==◌, nat_le, if◌then◌else◌, Bool, true, false, not, ◌&&◌, List, [], ◌∷◌, ◌++◌, Option, Some, None, codes, decimal}
use Rattle.notation.specs.declared.entry.{Ball.Ball, Side.Side}
use Rattle.ball_laws.specs.History.{History, open_over}
use Rattle.ball_laws.specs.Laws.{state_after}
use Rattle.ball_laws.specs.Over.{counting}
use Rattle.match_laws.specs.declared.rows.BowlingRow.{BowlingRow}
use Rattle.match_laws.specs.History.{begun, side_of}
use Rattle.match_laws.specs.Figures.{total, wickets, overs, balls, batter_runs, faced}
use Rattle.match_laws.specs.Parts.{bowling_row_of}
use Rattle.match_laws.specs.declared.outcome.Outcome.{Outcome}
use Rattle.match_laws.specs.declared.outcome.Outcome.TheVariants.{Undecided}
use Rattle.match_laws.specs.Result.{current, outcome}
use Rattle.corrections.specs.Overs.{bowler_now, newest_bowler}
use Rattle.limits.specs.Limits.{overs_for}
use Rattle.limits.specs.Figures.{runs_needed}
use Rattle.cards.specs.Sheet.{Sheet, name_of, player_of}
use Rattle.cards.specs.Bowling.{fielding, overs_of}
use Rattle.cards.specs.Marks.{spaced_mark}
use Rattle.cards.specs.Results.{counted, result_text}
use Rattle.score_rows.specs.declared.form.Form.{Form}
use Rattle.score_rows.specs.declared.room.Room.{Room}
use Rattle.score_rows.specs.Fit.{all_columns, are_alike, behind, below, beside, cut, first_fit, fits, has_team, is_beside, is_left, is_two, letters, limit_in}
use Rattle.score_rows.specs.Limited.{free_row, free_text, left_now, of_overs, off_text, past, past_row}

-- the total and the wickets
abbrev pub runs_text : History → ℕ → List ℕ
runs_text h i = decimal (total h i) ++ codes " for " ++ decimal (wickets h i)

-- the batting side, its total and its wickets
abbrev pub total_text : Sheet → History → ℕ → List ℕ
total_text s h i = name_of s (side_of h i) ++ codes " " ++ runs_text h i

-- the batting side, if the form shows it
abbrev pub team_text : Form → Sheet → History → ℕ → List ℕ
team_text f s h i = if has_team f then name_of s (side_of h i) ++ codes " " else []

-- the overs called, and the deliveries counted since
abbrev pub overs_front : History → ℕ → List ℕ
overs_front h i = codes " (" ++ decimal (overs h i) ++ codes "." ++ decimal (balls h i)

-- the overs, with how many the innings may have if the form shows that
abbrev pub overs_text : Form → Sheet → History → ℕ → List ℕ
overs_text f s h i = overs_front h i ++ of_overs (limit_in f (overs_for s.limits i)) ++ codes ")"

-- runs and balls faced, followed by this mark
abbrev pub batter_figures : ℕ → ℕ → List ℕ → List ℕ
batter_figures runs balls_faced mark =
    codes " " ++ decimal runs ++ codes " (" ++ decimal balls_faced ++ codes ")" ++ mark

-- the batter at an end, followed by his figures and this mark
abbrev pub batter : Form → Sheet → History → ℕ → List ℕ → Option ℕ → List ℕ
batter f s h i mark None = codes "-"
batter f s h i mark (Some p) =
    cut (letters f) (player_of s (side_of h i) p) ++ batter_figures (batter_runs h i p) (faced h i p) mark

-- the names at both ends look alike as the form cuts them
abbrev pub are_both_alike : Form → Sheet → Side → Option ℕ → Option ℕ → Bool
are_both_alike f s side (Some p) (Some q) = are_alike (letters f) (player_of s side p) (player_of s side q)
are_both_alike f s side striker other = false

abbrev pub are_ends_alike : Form → Sheet → History → ℕ → Bool
are_ends_alike f s h i = are_both_alike f s (side_of h i) (state_after h).ends.striker (state_after h).ends.other

-- the batters' numbers then stand before their names
abbrev pub number_text : Bool → Option ℕ → List ℕ
number_text is_alike None = []
number_text is_alike (Some p) = if is_alike then decimal p ++ codes " " else []

abbrev pub striker : Form → Sheet → History → ℕ → List ℕ
striker f s h i =
    number_text (are_ends_alike f s h i) (state_after h).ends.striker
    ++ batter f s h i (codes "*") (state_after h).ends.striker

abbrev pub other : Form → Sheet → History → ℕ → List ℕ
other f s h i =
    number_text (are_ends_alike f s h i) (state_after h).ends.other ++ batter f s h i [] (state_after h).ends.other

-- the striker, and the batter at the other end
abbrev pub batters : Form → Sheet → History → ℕ → List ℕ
batters f s h i = striker f s h i ++ codes "  " ++ other f s h i

-- maidens, runs and wickets, after the overs
abbrev pub behind_overs : BowlingRow → List ℕ
behind_overs row = codes "-" ++ decimal row.maidens ++ codes "-" ++ decimal row.runs ++ codes "-" ++ decimal row.wickets

abbrev pub figures : BowlingRow → List ℕ
figures row = overs_of row ++ behind_overs row

-- a bowler of a side, with his figures
abbrev pub bowler_text : Form → Sheet → Side → ℕ → BowlingRow → List ℕ
bowler_text f s side p row = cut (letters f) (player_of s side p) ++ codes " " ++ figures row

-- the bowler of the last delivery, if there is one, after two blanks
abbrev pub bowler : Form → Sheet → History → ℕ → Option ℕ → List ℕ
bowler f s h i None = []
bowler f s h i (Some p) = codes "  " ++ bowler_text f s (fielding h i) p (bowling_row_of h i p)

-- the marks of an over in the order bowled; its deliveries are given newest first
abbrev pub marks : List Ball → List ℕ
marks [] = []
marks (b ∷ older) = marks older ++ spaced_mark b

-- the sign before the marks, if older ones are left out
abbrev pub left_out : Bool → List ℕ
left_out is_all = if is_all then [] else codes " <"

-- the marks of the open over: of all its deliveries, or of those shown
abbrev pub open_marks : List Ball → Bool → List Ball → List ℕ
open_marks [] is_all shown = []
open_marks (b ∷ older) is_all shown = codes " " ++ left_out is_all ++ marks shown

-- the newest deliveries whose marks have room, newest first
abbrev pub newest : Room → List Ball → List Ball
newest room [] = []
newest room (b ∷ older) =
    if is_left (behind room (spaced_mark b)) then b ∷ newest (behind room (spaced_mark b)) older else []

-- a win by an innings and n runs
abbrev pub innings_win : Sheet → Side → ℕ → List ℕ
innings_win s side n =
    codes "  " ++ name_of s side ++ codes " won by an innings and " ++ counted n (codes "run") (codes "runs")

-- the result of a match, if it is decided
abbrev pub told : Option (List ℕ) → List ℕ
told None = []
told (Some result) = codes "  " ++ result

abbrev pub result_part : Sheet → Outcome → List ℕ
result_part s o = told (result_text s o)

abbrev pub is_decided : Outcome → Bool
is_decided Undecided = false
is_decided o = true

-- the result on a row of its own
abbrev pub result_row : Sheet → Outcome → List ℕ
result_row s o = if is_decided o then result_part s o ++ codes "\n" else []

-- the runs needed, if the deliveries aren't limited and the match isn't decided
abbrev pub aim : Outcome → Option ℕ → Option ℕ → List ℕ
aim Undecided (Some runs) None = codes "  needs " ++ decimal runs
aim o runs left = []

-- a row with the runs needed and the deliveries left, if these are limited and the match isn't decided
abbrev pub needs_row : Outcome → Option ℕ → Option ℕ → List ℕ
needs_row Undecided (Some runs) (Some left) = codes "  needs " ++ decimal runs ++ off_text runs left ++ codes "\n"
needs_row o runs left = []

-- the front of the row, with its batters
unfoldable pub front : Form → Sheet → History → ℕ → List ℕ
front f s h i = team_text f s h i ++ runs_text h i ++ overs_text f s h i ++ codes "  " ++ batters f s h i

-- the deliveries of an over before its last
abbrev pub older_of : List Ball → List Ball
older_of [] = []
older_of (b ∷ older) = older

abbrev pub are_two : Option ℕ → Option ℕ → Bool
are_two (Some p) (Some q) = not (p == q)
are_two p q = false

-- six counted before the over's last delivery, and a different bowler bowled the last one
abbrev pub is_uncalled : List Ball → Bool
is_uncalled over =
    nat_le 6 (counting (older_of over)) && are_two (newest_bowler over) (newest_bowler (older_of over))

abbrev pub uncalled_text : List Ball → List ℕ
uncalled_text over = if is_uncalled over then codes ", the over isn't called" else []

-- how many deliveries of the open over count, if six or more do
abbrev pub over_end : List Ball → List ℕ
over_end over =
    if nat_le 6 (counting over) then codes "  " ++ decimal (counting over) ++ codes " balls" ++ uncalled_text over
    else []

-- how many deliveries counted in a called over, if they aren't six
abbrev pub called_note : ℕ → List ℕ
called_note count =
    if count == 6 then []
    else if count == 1 then codes " (1 ball)"
    else codes " (" ++ decimal count ++ codes " balls)"

-- the bowler, and that he is past his most overs
abbrev pub bowling : Form → Sheet → History → ℕ → List ℕ
bowling f s h i = bowler f s h i (bowler_now h) ++ past (beside f s.limits.overs_a_bowler) h (bowler_now h)

-- the rows about limits that have no room in the row
abbrev pub limits_below : Form → Sheet → History → ℕ → List ℕ
limits_below f s h i =
    past_row s h i (below f s.limits.overs_a_bowler) (bowler_now h) ++ free_row (not (is_beside f)) s h

unfoldable pub back : Form → Bool → List Ball → Sheet → ℕ → History → ℕ → List ℕ
back f is_all shown s n h i =
    bowling f s h i ++ open_marks (open_over h) is_all shown ++ free_text (is_beside f) s h
    ++ aim (outcome n h) (runs_needed n h) (left_now s h i) ++ over_end (open_over h)

-- the batters' row, if the form puts the bowler on a row of his own below it
abbrev pub above : Form → Sheet → History → ℕ → List ℕ
above f s h i = if is_two f then front f s h i ++ codes "\n" else []

-- what stands before the bowler in his row
abbrev pub ahead : Form → Sheet → History → ℕ → List ℕ
ahead f s h i = if is_two f then [] else front f s h i

-- the bowler's row of an innings, with all marks of the open over or only those shown
abbrev pub line : Form → Bool → List Ball → Sheet → ℕ → History → ℕ → List ℕ
line f is_all shown s n h i = ahead f s h i ++ back f is_all shown s n h i

unfoldable pub whole_line : Form → Sheet → ℕ → History → ℕ → List ℕ
whole_line f s n h i = line f true (open_over h) s n h i

-- the bowler's row without marks
unfoldable pub bare_line : Form → Sheet → ℕ → History → ℕ → List ℕ
bare_line f s n h i = line f false [] s n h i

-- the bowler's row with as many of the newest marks as there is room for
unfoldable pub short_line : Form → Sheet → ℕ → History → ℕ → List ℕ
short_line f s n h i =
    line f false (newest (behind (all_columns s) (bare_line f s n h i)) (open_over h)) s n h i

-- the first form in which the row fits, as Fit has it
unfoldable pub form_of : Sheet → ℕ → History → ℕ → Form
form_of s n h i = first_fit (λ f. fits s (whole_line f s n h i)) (λ f. fits s (bare_line f s n h i))

-- the row in this form: with all marks if it fits, else with the newest that fit
unfoldable pub line_in : Form → Sheet → ℕ → History → ℕ → List ℕ
line_in f s n h i = if fits s (whole_line f s n h i) then whole_line f s n h i else short_line f s n h i

unfoldable pub innings_row : Sheet → ℕ → History → ℕ → List ℕ
innings_row s n h i =
    above (form_of s n h i) s h i ++ line_in (form_of s n h i) s n h i ++ codes "\n" ++ limits_below (form_of s n h i) s h i
    ++ needs_row (outcome n h) (runs_needed n h) (left_now s h i) ++ result_row s (outcome n h)

-- the row of the innings begun last, or that there was no play
abbrev pub row : Sheet → ℕ → History → List ℕ
row s n h = if begun h == 0 then codes "No play\n" else innings_row s n h (current h)
