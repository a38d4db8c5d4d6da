-- The bowling card of an innings, as a table: s is the sheet, h the history and i the innings. The figures are those of `card`.
use Rattle.std.specs.Prelude.{ℕ, List, ◌++◌, codes, decimal}
use Rattle.notation.specs.declared.entry.Side.{Side}
use Rattle.ball_laws.specs.History.{History}
use Rattle.match_laws.specs.Figures.{bowling_order}
use Rattle.match_laws.specs.Parts.{bowling_row_of}
use Rattle.match_laws.specs.declared.rows.BowlingRow.{BowlingRow}
use Rattle.cards.specs.Bowling.{fielding}
use Rattle.cards.specs.Columns.{lines_for}
use Rattle.cards.specs.Sheet.{Sheet, name_of, player_of}
use Rattle.page.specs.declared.bowling.TheConstants.{HEADINGS}
use Rattle.page.specs.Escapes.{name_html}

-- the overs bowled alone, the balls in other overs, the maidens, and the runs debited
abbrev pub figures_front : BowlingRow → List ℕ
figures_front row =
    codes "</th><td>" ++ (decimal row.overs ++ (codes "." ++ (decimal row.balls ++ (codes "</td><td>" ++ (decimal row.maidens
    ++ (codes "</td><td>" ++ (decimal row.runs ++ codes "</td>")))))))

-- the wickets, the runs of wides, and the no balls
abbrev pub figures_back : BowlingRow → List ℕ
figures_back row =
    codes "<td>" ++ (decimal row.wickets ++ (codes "</td><td>" ++ (decimal row.wides ++ (codes "</td><td>" ++ (decimal row.noballs
    ++ codes "</td></tr>\n")))))

-- the row of a player of the side
abbrev pub row_html : Sheet → Side → ℕ → BowlingRow → List ℕ
row_html s side p row = codes "<tr><th scope='row'>" ++ name_html (player_of s side p) ++ figures_front row ++ figures_back row

abbrev pub bowler_html : Sheet → History → ℕ → ℕ → List ℕ
bowler_html s h i p = row_html s (fielding h i) p (bowling_row_of h i p)

abbrev pub bowlers_html : Sheet → History → ℕ → List ℕ
bowlers_html s h i = lines_for (bowler_html s h i) (bowling_order h i)

abbrev pub table_front : Sheet → Side → List ℕ
table_front s side = codes "<table><caption>" ++ name_html (name_of s side) ++ codes " bowling</caption>" ++ HEADINGS.now

abbrev pub bowling_html : Sheet → History → ℕ → List ℕ
bowling_html s h i = table_front s (fielding h i) ++ bowlers_html s h i ++ codes "</tbody></table>\n"
