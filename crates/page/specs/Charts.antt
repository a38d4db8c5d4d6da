-- The charts of a match: s is the sheet, n the innings a side, h the history and ms the items of the match.
use Rattle.std.specs.Prelude.{ℕ, ◌==◌, if◌then◌else◌, List, [], ◌++◌, codes}
use Rattle.ball_laws.specs.History.{History}
use Rattle.match_laws.specs.History.{begun}
use Rattle.cards.specs.Sheet.{Sheet}
use Rattle.page.specs.Bars.{all_bars}
use Rattle.page.specs.Growth.{growth_html}
use Rattle.page.specs.Overs.{all_overs, in_section}
use Rattle.page.specs.declared.{charts.TheConstants.CHARTS, moments.Moment.Moment}

abbrev pub figures_html : Sheet → ℕ → History → List Moment → List ℕ
figures_html s n h ms = CHARTS.now ++ all_bars s n h ms ++ growth_html s n h ms ++ codes "</div>\n</section>\n"

abbrev pub charts_html : Sheet → ℕ → History → List Moment → List ℕ
charts_html s n h ms = if begun h == 0 then [] else figures_html s n h ms

-- the course of a match: each over, and then the charts
abbrev pub course_html : Sheet → ℕ → History → List Moment → List ℕ
course_html s n h ms = in_section (all_overs s n h ms) ++ charts_html s n h ms
