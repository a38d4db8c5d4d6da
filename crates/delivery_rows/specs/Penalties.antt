-- The rows of penalty runs that no delivery carries. s is the sheet, day the day of the match, h the history, i the innings,
-- and xs the items of all innings with the state of play before each.
use Rattle.std.specs.Prelude.{ℕ, ◌==◌, if◌then◌else◌, List, [], ◌∷◌, ◌++◌, codes, decimal}
use Rattle.notation.specs.declared.entry.Side.{Side}
use Rattle.ball_laws.specs.History.{History}
use Rattle.match_laws.specs.History.{begun, side_of}
use Rattle.cards.specs.Sheet.{Sheet}
use Rattle.json_fields.specs.Values.{up_to}
use Rattle.archive_deliveries.specs.declared.{begun.Begun.Begun, notes.Noted.Noted}
use Rattle.archive_deliveries.specs.Notes.{begun_of}
use Rattle.export.specs.Innings.{runs_after, runs_before}
use Rattle.delivery_rows.specs.Deliveries.{innings_cells}

-- the names of the columns
abbrev pub columns : List ℕ
columns = codes "match_id,start_date,innings,batting_team,bowling_team,awarded,penalty\n"

-- the row of the runs awarded at this time, if there are any: `pre`, before the first delivery of the innings, or `post`, after
-- a later innings had begun
abbrev pub award_rows : Sheet → List ℕ → Side → ℕ → List ℕ → ℕ → List (List (List ℕ))
award_rows s day side i awarded runs =
    if runs == 0 then [] else (innings_cells s day side i ++ awarded ∷ decimal runs ∷ []) ∷ []

-- the rows of innings i, in which this side bats
abbrev pub side_penalties : Sheet → List ℕ → Side → Begun → ℕ → List Noted → List (List (List ℕ))
side_penalties s day side f i xs =
    award_rows s day side i (codes "pre") (runs_before f i xs) ++ award_rows s day side i (codes "post") (runs_after f i xs)

abbrev pub innings_penalties : Sheet → List ℕ → History → List Noted → ℕ → List (List (List ℕ))
innings_penalties s day h xs i = side_penalties s day (side_of h i) (begun_of h) i xs

abbrev pub all_penalties : Sheet → List ℕ → History → List Noted → List (List (List ℕ))
all_penalties s day h xs = up_to (innings_penalties s day h xs) (begun h)
