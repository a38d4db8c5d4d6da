-- The batting side's players who are neither out nor in, three in a row. s is the sheet, h the history and i the innings.
use Rattle.std.specs.Prelude.{ℕ, ◌==◌, Bool, true, false, if◌then◌else◌, Option, Some, None, List, [], ◌∷◌, ◌++◌, codes}
use Rattle.ball_laws.specs.History.{History}
use Rattle.ball_laws.specs.Over.{numbers}
use Rattle.match_laws.specs.History.{begun, side_of}
use Rattle.match_laws.specs.Figures.{fate}
use Rattle.match_laws.specs.Result.{current}
use Rattle.match_laws.specs.declared.rows.Fate.{Fate}
use Rattle.cards.specs.Sheet.{Sheet, name_of, team_of}
use Rattle.screen.specs.Sides.{before_player, next_column, player_text}

-- a player with this fate waits: he hasn't come in yet, or is retired hurt
abbrev pub waits : Option Fate → Bool
waits None = true
waits (Some Fate.Hurt) = true
waits (Some other) = false

abbrev pub waiting : Sheet → History → ℕ → ℕ → List ℕ → List ℕ
waiting s h i column [] = []
waiting s h i column (n ∷ ns) =
    if waits (fate h i n)
    then before_player column ++ player_text (team_of s (side_of h i)) n ++ waiting s h i (next_column column) ns
    else waiting s h i column ns

-- all of the eleven who wait
unfoldable pub all_waiting : Sheet → History → ℕ → List ℕ
all_waiting s h i = waiting s h i 0 numbers

abbrev pub waiting_lines : Sheet → History → ℕ → List ℕ
waiting_lines s h i = name_of s (side_of h i) ++ codes ":" ++ all_waiting s h i ++ codes "\n"

abbrev pub who_waits : Sheet → History → List ℕ
who_waits s h = if begun h == 0 then codes "No play\n" else waiting_lines s h (current h)
