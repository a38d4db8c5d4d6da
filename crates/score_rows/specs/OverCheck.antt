-- What two scorers compare after an over (Law 3): three rows, each fitted to the columns that the sheet s has for it. h is the
-- history and i the innings.
use Rattle.std.specs.Prelude.{ℕ, ◌==◌, if◌then◌else◌, Bool, true, false, List, [], ◌∷◌, ◌++◌, codes, decimal}
use Rattle.notation.specs.declared.entry.Ball.{Ball}
use Rattle.ball_laws.specs.History.{History}
use Rattle.ball_laws.specs.Sums.{tally}
use Rattle.match_laws.specs.declared.score.Extras.{Extras}
use Rattle.match_laws.specs.History.{begun}
use Rattle.match_laws.specs.Figures.{runs_of}
use Rattle.match_laws.specs.Parts.{extras_of}
use Rattle.match_laws.specs.Result.{current}
use Rattle.corrections.specs.Overs.{bowler_now, over_now}
use Rattle.cards.specs.Sheet.{Sheet}
use Rattle.cards.specs.Batting.{all_extras}
use Rattle.score_rows.specs.declared.form.Form.TheVariants.{Whole}
use Rattle.score_rows.specs.Fit.{all_columns, behind, fits}
use Rattle.score_rows.specs.Row.{total_text, striker, other, bowler, newest, open_marks}
use Rattle.score_rows.specs.Limited.{limits_line}

-- between two parts of a row: this joint, or this break if one row would have too many columns
abbrev pub between : Bool → List ℕ → List ℕ → List ℕ
between is_one joint beyond = if is_one then joint else beyond

abbrev pub in_rows : Sheet → List ℕ → List ℕ → List ℕ → List ℕ → List ℕ
in_rows s first joint beyond second =
    first ++ between (fits s (first ++ joint ++ second)) joint beyond ++ second ++ codes "\n"

-- the sum of the extras, byes and leg byes
abbrev pub extras_front : Extras → List ℕ
extras_front x =
    codes "extras " ++ decimal (all_extras x) ++ codes " (b " ++ decimal x.byes ++ codes ", lb " ++ decimal x.legs

-- wides, no balls and penalty runs
abbrev pub extras_back : Extras → List ℕ
extras_back x =
    codes ", w " ++ decimal x.wides ++ codes ", nb " ++ decimal x.noballs ++ codes ", p " ++ decimal x.penalty ++ codes ")"

abbrev pub extras_text : Extras → List ℕ
extras_text x = extras_front x ++ extras_back x

abbrev pub total_line : Sheet → History → ℕ → List ℕ
total_line s h i =
    in_rows s (codes "  " ++ total_text s h i) (codes ", ") (codes ",\n    ") (extras_text (extras_of h i))

abbrev pub batters_line : Sheet → History → ℕ → List ℕ
batters_line s h i =
    in_rows s (codes "  " ++ striker Whole s h i) (codes "  ") (codes "\n    ") (other Whole s h i)

-- the marks of an over, all or only the newest shown, and all its runs
abbrev pub marked : List Ball → Bool → List Ball → List ℕ
marked over is_all shown = open_marks over is_all shown ++ codes " = " ++ decimal (tally runs_of over)

abbrev pub own_row : List Ball → Bool → List Ball → List ℕ
own_row over is_all shown = codes "  " ++ marked over is_all shown

-- all marks if they fit in a row of their own, else the newest that fit
abbrev pub over_text : Sheet → List Ball → List ℕ
over_text s over =
    if fits s (own_row over true over) then marked over true over
    else marked over false (newest (behind (all_columns s) (own_row over false [])) over)

-- the row of the last delivery's bowler and over, if there is one
abbrev pub over_line : Sheet → History → ℕ → List Ball → List ℕ
over_line s h i [] = []
over_line s h i (b ∷ older) =
    in_rows s (bowler Whole s h i (bowler_now h)) [] (codes "\n  ") (over_text s (b ∷ older))

abbrev pub check_lines : Sheet → History → ℕ → List ℕ
check_lines s h i = total_line s h i ++ batters_line s h i ++ over_line s h i (over_now h) ++ limits_line s h i

-- the check for the innings begun last
abbrev pub over_check : Sheet → History → List ℕ
over_check s h = if begun h == 0 then codes "No play\n" else check_lines s h (current h)
