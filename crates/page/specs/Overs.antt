-- Each over of an innings, ball by ball: s is the sheet, n the innings a side, h the history, i the innings, side the side that
-- bats in it, and ms the items of the match.
use Rattle.std.specs.Prelude.{ℕ, ◌+◌, ◌==◌, ◌&&◌, ◌||◌, not, nat_le, Bool, true, false, is_some, if◌then◌else◌, List, [], ◌++◌, length, Option, Some, None, codes, decimal}
use Rattle.std.specs.List.{flat_map}
use Rattle.notation.specs.declared.entry.{Ball.Ball, Kind.Kind, Leave.Leave, Plain.Plain, Side.Side}
use Rattle.notation.specs.declared.entry.Kind.TheVariants.{Bat}
use Rattle.ball_laws.specs.History.{History}
use Rattle.match_laws.specs.Figures.{runs_of}
use Rattle.match_laws.specs.History.{begun, opponent, side_of}
use Rattle.cards.specs.Dismissals.{left_text}
use Rattle.cards.specs.Marks.{dead_mark, mark_of}
use Rattle.cards.specs.Sheet.{Sheet, name_of, player_of}
use Rattle.json_fields.specs.Values.{up_to}
use Rattle.page.specs.Escapes.{name_html}
use Rattle.page.specs.Innings.{title_html}
use Rattle.page.specs.declared.{moments.Moment.Moment, overs.TheConstants.HEADINGS, overs.TheConstants.OVERS}

-- ---- a delivery

abbrev pub is_bat : Kind → Bool
is_bat Bat = true
is_bat _ = false

-- deliveries that stand out: four runs or more, or extras
abbrev pub is_more : Ball → Bool
is_more b = nat_le 4 (runs_of b) || not (is_bat b.kind)

abbrev pub ball_front : Ball → List ℕ
ball_front b = if is_some b.out then codes "<li class='wicket'>" else (if is_more b then codes "<li class='more'>" else codes "<li>")

-- the mark of a delivery, with a bullet for a dot ball
abbrev pub mark_html : Ball → List ℕ
mark_html b = if (runs_of b == 0) && not (is_some b.out) then codes "&bull;" else mark_of b

abbrev pub ball_html : Ball → List ℕ
ball_html b = ball_front b ++ mark_html b ++ dead_mark b.dead ++ codes "</li>"

-- who bowls the deliveries that follow
abbrev pub bowler_html : List ℕ → List ℕ
bowler_html name = codes "<span class='bowlers'>" ++ name_html name ++ codes "</span> <ol class='marks'>"

-- the front of an over's row, with its number from 1
abbrev pub row_front : ℕ → List ℕ
row_front number = codes "<tr><th scope='row'>" ++ (decimal number ++ codes "</th><td class='words'>")

-- before a delivery: the front of the over if it is the first, or else the bowler if he has changed
abbrev pub before_ball : Option ℕ → ℕ → ℕ → List ℕ → List ℕ
before_ball None overs bowler name = row_front (overs + 1) ++ bowler_html name
before_ball (Some last) overs bowler name = if last == bowler then [] else codes "</ol> " ++ bowler_html name

-- ---- where an over ends

abbrev pub score_html : ℕ → ℕ → List ℕ
score_html total wickets = codes "</td><td>" ++ (decimal total ++ (codes "/" ++ (decimal wickets ++ codes "</td></tr>\n")))

abbrev pub balls_word : ℕ → List ℕ
balls_word balls = if balls == 1 then codes " ball)</span>" else codes " balls)</span>"

abbrev pub counted_html : ℕ → List ℕ → List ℕ
counted_html balls word = codes "</ol> <span class='note'>(" ++ (decimal balls ++ word)

-- how many deliveries of an over count, unless there are six
abbrev pub count_html : ℕ → List ℕ
count_html balls = if balls == 6 then codes "</ol>" else counted_html balls (balls_word balls)

-- the runs of the over's deliveries, and the score after it
abbrev pub row_end : Moment → List ℕ
row_end m = codes "</td><td>" ++ decimal m.over.runs ++ score_html m.total m.wickets

-- the end of an over that wasn't called, if it has a delivery
abbrev pub open_end : Moment → List ℕ
open_end m = if is_some m.over.bowler then codes "</ol>" ++ row_end m else []

-- ---- events other than deliveries: within the over if one is on, or else in a row of their own

abbrev pub among_html : List ℕ → List ℕ
among_html text = codes "<li class='aside'>" ++ text ++ codes "</li>"

abbrev pub between_html : Moment → List ℕ → List ℕ
between_html m text =
    codes "<tr><th scope='row'></th><td class='words'><span class='note'>" ++ text ++ codes "</span></td><td>" ++ score_html m.total m.wickets

abbrev pub aside_html : Moment → List ℕ → List ℕ
aside_html m text = if is_some m.over.bowler then among_html text else between_html m text

abbrev pub gone_html : List ℕ → Leave → List ℕ
gone_html name way = name_html name ++ codes " " ++ left_text way

abbrev pub item_html : Sheet → Side → Moment → Plain → List ℕ
item_html s side m (Plain.Ball b) =
    before_ball m.over.bowler m.overs b.bowler (player_of s (opponent side) b.bowler) ++ ball_html b
item_html s side m Plain.Over = count_html m.balls ++ row_end m
item_html s side m (Plain.Gone way p) = aside_html m (gone_html (player_of s side p) way)
item_html s side m (Plain.Penalty to law part) = aside_html m (codes "5 penalty runs to " ++ name_html (name_of s to))
item_html s side m (Plain.End cause) = open_end m
item_html s side m Plain.Void = open_end m
item_html s side m _ = []

-- an item, if it belongs to innings i and the innings was open before it
abbrev pub moment_html : Sheet → Side → ℕ → Moment → List ℕ
moment_html s side i m = if (m.innings == i) && m.on then item_html s side m m.item else []

-- ---- the table of an innings, and those of all: nothing if there are no rows

abbrev pub caption_html : List ℕ → List ℕ
caption_html title = codes "<table><caption>" ++ title ++ HEADINGS.now

abbrev pub table_html : List ℕ → List ℕ → List ℕ
table_html title rows = caption_html title ++ rows ++ codes "</tbody></table>\n"

abbrev pub in_table : List ℕ → List ℕ → List ℕ
in_table title rows = if length rows == 0 then [] else table_html title rows

abbrev pub overs_html : Sheet → ℕ → History → List Moment → ℕ → List ℕ
overs_html s n h ms i = in_table (title_html s n h i) (flat_map (moment_html s (side_of h i) i) ms)

abbrev pub section_html : List ℕ → List ℕ
section_html tables = OVERS.now ++ tables ++ codes "</div>\n</section>\n"

abbrev pub in_section : List ℕ → List ℕ
in_section tables = if length tables == 0 then [] else section_html tables

abbrev pub all_overs : Sheet → ℕ → History → List Moment → List ℕ
all_overs s n h ms = up_to (overs_html s n h ms) (begun h)
