-- The page's part of an innings, made of its figures f. The sheet s, the innings n of each side, the history h, the items xs of
-- the match and the number i of the innings give the rest.
use Rattle.std.specs.Prelude.{ℕ, ◌+◌, ◌==◌, if◌then◌else◌, List, [], ◌++◌, Option, codes}
use Rattle.notation.specs.declared.entry.Cause.{Cause}
use Rattle.ball_laws.specs.History.{History}
use Rattle.match_laws.specs.History.{opponent}
use Rattle.limits.specs.Figures.{run_rate}
use Rattle.cards.specs.Sheet.{Sheet}
use Rattle.cards.specs.Columns.{lines_for, lines_from}
use Rattle.page.specs.Batting as batting
use Rattle.page.specs.Bowling as bowling
use Rattle.page.specs.Falls.{fall_html}
use Rattle.page.specs.Idle.{idle_html}
use Rattle.page.specs.Innings.{cause_in, overs_text, score_text, section_front, side_word, target_html, title_html}
use Rattle.page.specs.Stands.{partnerships_html}
use Rattle.page.specs.declared.moments.Moment.{Moment}
use Rattle.same_figures.specs.Figures.{Figures}

abbrev pub score_html : Option Cause → Figures → List ℕ
score_html cause f =
    codes "<span>" ++ score_text cause f.total f.wickets ++ overs_text f.overs f.balls ++ codes "</span></h2>\n"

abbrev pub heading_html : Sheet → ℕ → History → List Moment → ℕ → Figures → List ℕ
heading_html s n h xs i f =
    section_front (i + 1) (side_word f.side) ++ title_html s n h i ++ codes " " ++ score_html (cause_in i xs) f

abbrev pub total_words : History → ℕ → Figures → List ℕ
total_words h i f = batting.down_text f.wickets f.overs f.balls ++ batting.rate_text (run_rate h i) ++ codes ")"

abbrev pub batting_foot : History → ℕ → Figures → List ℕ
batting_foot h i f =
    codes "</tbody><tfoot>\n"
    ++ batting.extras_row f.extras
    ++ batting.foot_row (codes "Total") (total_words h i f) f.total
    ++ codes "</tfoot></table>\n"

abbrev pub batting_html : Sheet → History → ℕ → Figures → List ℕ
batting_html s h i f =
    batting.table_front s h i ++ lines_for (λ p. batting.row_html s f.side p (f.batter p)) f.batters ++ batting_foot h i f

abbrev pub falls_html : Sheet → Figures → List ℕ
falls_html s f =
    if f.wickets == 0 then []
    else codes "<p class='falls'><b>Fall of wickets, with the over: </b>" ++ lines_from (fall_html s f.side f.there) 0 f.falls ++ codes "</p>\n"

abbrev pub bowling_html : Sheet → Figures → List ℕ
bowling_html s f =
    bowling.table_front s (opponent f.side)
    ++ lines_for (λ p. bowling.row_html s (opponent f.side) p (f.bowler p)) f.bowlers
    ++ codes "</tbody></table>\n"

abbrev pub innings_html : Sheet → ℕ → History → List Moment → ℕ → Figures → List ℕ
innings_html s n h xs i f =
    heading_html s n h xs i f
    ++ codes "<div class='both'><div>\n"
    ++ (target_html s h i ++ batting_html s h i f ++ idle_html s n h i ++ falls_html s f)
    ++ (codes "</div><div>\n" ++ bowling_html s f ++ partnerships_html i xs ++ codes "</div></div></section>\n")
