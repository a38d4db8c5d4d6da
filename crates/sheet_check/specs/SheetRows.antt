-- The rows of a sheet as it was read: its title, number and innings, both sides with their players' numbers and names, and
-- its limits. s is the sheet.
use Rattle.std.specs.Prelude.{ℕ, Bool, if◌then◌else◌, List, [], ◌∷◌, ◌++◌, Option, Some, None, codes, decimal}
use Rattle.notation.specs.declared.entry.Side.{Side}
use Rattle.notation.specs.declared.entry.Side.TheVariants.{Home, Away}
use Rattle.ball_laws.specs.Over.{numbers}
use Rattle.limits.specs.declared.powerplay.Powerplay.{Powerplay}
use Rattle.limits.specs.Limits.{Limits}
use Rattle.cards.specs.Sheet.{Sheet, name_of, player_of}

-- a row: its label and its text
abbrev pub row : List ℕ → List ℕ → List ℕ
row what text = what ++ codes " " ++ text ++ codes "\n"

-- the rows of the players of these numbers
abbrev pub players : Sheet → Side → List ℕ → List ℕ
players s side [] = []
players s side (n ∷ ns) = row (decimal n) (player_of s side n) ++ players s side ns

abbrev pub team : Sheet → List ℕ → Side → List ℕ
team s what side = row what (name_of s side) ++ players s side numbers

-- a row for the overs of each innings, in order
abbrev pub overs_rows : List ℕ → List ℕ
overs_rows [] = []
overs_rows (n ∷ ns) = row (codes "overs") (decimal n) ++ overs_rows ns

abbrev pub bowler_row : Option ℕ → List ℕ
bowler_row None = []
bowler_row (Some n) = row (codes "overs_a_bowler") (decimal n)

abbrev pub free_row : Bool → List ℕ
free_row free = if free then row (codes "free_hits") (codes "true") else []

-- a row for each powerplay: its first over and its last
abbrev pub powerplay_rows : List Powerplay → List ℕ
powerplay_rows [] = []
powerplay_rows (p ∷ ps) = row (codes "powerplay") (decimal p.first ++ codes " " ++ decimal p.last) ++ powerplay_rows ps

-- the rows of a sheet's limits: none if it has no limits
abbrev pub limits_rows : Limits → List ℕ
limits_rows l = overs_rows l.overs ++ bowler_row l.overs_a_bowler ++ free_row l.free_hits ++ powerplay_rows l.powerplays

abbrev pub shown_sheet : Sheet → List ℕ
shown_sheet s =
    row (codes "title") s.title
    ++ row (codes "number") (decimal s.game)
    ++ row (codes "innings") (decimal s.innings)
    ++ team s (codes "home") Home
    ++ team s (codes "away") Away
    ++ limits_rows s.limits
