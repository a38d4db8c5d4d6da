-- Both sides, with the players' numbers and names. s is the sheet.
use Rattle.std.specs.Prelude.{ℕ, ◌+◌, ◌==◌, if◌then◌else◌, Bool, true, false, List, [], ◌∷◌, ◌++◌, codes, decimal}
use Rattle.notation.specs.declared.entry.Side.TheVariants.{Home, Away}
use Rattle.ball_laws.specs.Over.{numbers}
use Rattle.cards.specs.Sheet.{Sheet, Team, player_in, team_of}

-- a player by number and name
abbrev pub player_text : Team → ℕ → List ℕ
player_text team n = decimal n ++ codes " " ++ player_in team n

-- what stands before each player but the first
abbrev pub comma : Bool → List ℕ
comma true = []
comma false = codes ", "

-- the players with these numbers, with commas between them
abbrev pub listed : Team → Bool → List ℕ → List ℕ
listed team is_first [] = []
listed team is_first (n ∷ ns) = comma is_first ++ player_text team n ++ listed team false ns

-- what stands before a player in this column of a row of three: the first column begins a new row
abbrev pub before_player : ℕ → List ℕ
before_player column = if column == 0 then codes "\n  " else codes ", "

abbrev pub next_column : ℕ → ℕ
next_column column = if column == 2 then 0 else column + 1

-- the players with these numbers, three in a row, from this column on
abbrev pub in_rows : Team → ℕ → List ℕ → List ℕ
in_rows team column [] = []
in_rows team column (n ∷ ns) = before_player column ++ player_text team n ++ in_rows team (next_column column) ns

abbrev pub team_rows : Team → List ℕ
team_rows team = team.name ++ codes ":" ++ in_rows team 0 numbers ++ codes "\n"

abbrev pub both_sides : Sheet → List ℕ
both_sides s = team_rows (team_of s Home) ++ team_rows (team_of s Away)
