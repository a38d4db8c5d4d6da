-- The falls of the wickets of an innings: s is the sheet, h the history and i the innings. The falls are those of `card`.
use Rattle.std.specs.Prelude.{ℕ, ◌+◌, ◌==◌, if◌then◌else◌, List, [], ◌++◌, Option, Some, None, slice_get, codes, decimal}
use Rattle.notation.specs.declared.entry.Side.{Side}
use Rattle.ball_laws.specs.History.{History}
use Rattle.match_laws.specs.declared.rows.Fall.{Fall}
use Rattle.match_laws.specs.History.{side_of}
use Rattle.match_laws.specs.Figures.{wickets, falls}
use Rattle.cards.specs.Columns.{lines_from}
use Rattle.cards.specs.Sheet.{Sheet, player_of}
use Rattle.falls.specs.declared.fallen.FallAt.{FallAt}
use Rattle.falls.specs.Falls.{falls_at, falls_in, over_and_ball}
use Rattle.page.specs.Escapes.{name_html}

-- the over and the ball of a fall, if they are known
abbrev pub at_html : Option FallAt → List ℕ
at_html None = codes "</span> "
at_html (Some at) = codes " (" ++ over_and_ball at ++ codes ")</span> "

-- the number of the wicket, and the total at its fall
abbrev pub score_html : ℕ → ℕ → List ℕ
score_html number total = codes "<span class='fall'>" ++ (decimal number ++ (codes "-" ++ (decimal total ++ codes " ")))

-- fall k of the side's wickets, from 0, where there has the over and ball of each fall of the innings
abbrev pub fall_html : Sheet → Side → List FallAt → ℕ → Fall → List ℕ
fall_html s side there k fall = score_html (k + 1) fall.total ++ name_html (player_of s side fall.player) ++ at_html (slice_get there k)

abbrev pub each_fall : Sheet → History → ℕ → List ℕ
each_fall s h i = lines_from (fall_html s (side_of h i) (falls_in (i + 1) (falls_at h))) 0 (falls h i)

abbrev pub falls_html : Sheet → History → ℕ → List ℕ
falls_html s h i =
    if wickets h i == 0 then []
    else codes "<p class='falls'><b>Fall of wickets, with the over: </b>" ++ each_fall s h i ++ codes "</p>\n"
