-- The batting card of an innings, as a table: s is the sheet, h the history and i the innings. The figures are those of `card`.
use Rattle.std.specs.Prelude.{ℕ, List, [], ◌++◌, Option, Some, None, codes, decimal}
use Rattle.notation.specs.declared.entry.Side.{Side}
use Rattle.ball_laws.specs.History.{History}
use Rattle.match_laws.specs.declared.{score.Extras.Extras, rows.BattingRow.BattingRow}
use Rattle.match_laws.specs.Parts.{batting_row_of, extras_of}
use Rattle.match_laws.specs.History.{side_of, opponent}
use Rattle.match_laws.specs.Figures.{total, wickets, overs, balls, batting_order}
use Rattle.limits.specs.Figures.{run_rate}
use Rattle.limits.specs.Rates.{two_places}
use Rattle.cards.specs.Sheet.{Sheet, name_of, player_of}
use Rattle.cards.specs.Batting.{all_extras}
use Rattle.cards.specs.Columns.{lines_for}
use Rattle.page.specs.declared.batting.TheConstants.{HEADINGS}
use Rattle.page.specs.Dismissals.{fate_html}
use Rattle.page.specs.Escapes.{name_html}

-- words twice: under the name in the first cell, for the narrow screen of a telephone, and in a cell of their own
abbrev pub words_cells : List ℕ → List ℕ
words_cells words =
    codes "<span class='under'>" ++ (words ++ (codes "</span></th><td class='words how'>" ++ (words ++ codes "</td>")))

-- runs, balls faced, fours and sixes
abbrev pub figures_of : BattingRow → List ℕ
figures_of row =
    codes "<td class='runs'>" ++ (decimal row.runs ++ (codes "</td><td>" ++ (decimal row.faced
    ++ (codes "</td><td>" ++ (decimal row.fours ++ (codes "</td><td>" ++ (decimal row.sixes ++ codes "</td></tr>\n")))))))

-- the row of a player of the side
abbrev pub row_html : Sheet → Side → ℕ → BattingRow → List ℕ
row_html s side p row =
    codes "<tr><th scope='row'>" ++ name_html (player_of s side p) ++ words_cells (fate_html s (opponent side) row.fate) ++ figures_of row

abbrev pub batter_html : Sheet → History → ℕ → ℕ → List ℕ
batter_html s h i p = row_html s (side_of h i) p (batting_row_of h i p)

abbrev pub batters_html : Sheet → History → ℕ → List ℕ
batters_html s h i = lines_for (batter_html s h i) (batting_order h i)

-- byes, leg byes, wides, no balls and penalty runs
abbrev pub kinds_text : Extras → List ℕ
kinds_text x =
    codes "b " ++ (decimal x.byes ++ (codes ", lb " ++ (decimal x.legs ++ (codes ", w " ++ (decimal x.wides
    ++ (codes ", nb " ++ (decimal x.noballs ++ (codes ", p " ++ decimal x.penalty))))))))

-- runs of the whole innings, to the end of the row
abbrev pub runs_cells : ℕ → List ℕ
runs_cells n = codes "<td class='runs'>" ++ (decimal n ++ codes "</td><td colspan='3'></td></tr>\n")

abbrev pub foot_row : List ℕ → List ℕ → ℕ → List ℕ
foot_row label words n = codes "<tr><th scope='row'>" ++ label ++ words_cells words ++ runs_cells n

abbrev pub extras_row : Extras → List ℕ
extras_row x = foot_row (codes "Extras") (kinds_text x) (all_extras x)

-- the run rate, as a board shows it
abbrev pub rate_text : Option ℕ → List ℕ
rate_text None = []
rate_text (Some x) = codes ", " ++ (two_places x ++ codes " an over")

-- the wickets, the overs called, and the balls since
abbrev pub down_text : ℕ → ℕ → ℕ → List ℕ
down_text down called since = codes "for " ++ (decimal down ++ (codes " (" ++ (decimal called ++ (codes "." ++ (decimal since ++ codes " overs")))))

abbrev pub at_text : History → ℕ → List ℕ
at_text h i = down_text (wickets h i) (overs h i) (balls h i) ++ rate_text (run_rate h i) ++ codes ")"

abbrev pub total_row : History → ℕ → List ℕ
total_row h i = foot_row (codes "Total") (at_text h i) (total h i)

abbrev pub table_front : Sheet → History → ℕ → List ℕ
table_front s h i = codes "<table><caption>" ++ name_html (name_of s (side_of h i)) ++ codes " batting</caption>" ++ HEADINGS.now

abbrev pub table_foot : History → ℕ → List ℕ
table_foot h i = codes "</tbody><tfoot>\n" ++ extras_row (extras_of h i) ++ total_row h i ++ codes "</tfoot></table>\n"

abbrev pub batting_html : Sheet → History → ℕ → List ℕ
batting_html s h i = table_front s h i ++ batters_html s h i ++ table_foot h i
