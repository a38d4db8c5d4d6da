-- How HTML reads the overs, ball by ball.
use Rattle.std.proofs.Common.{ℕ, ◌+◌, Bool, not, ◌&&◌, List, [], ◌++◌, refl}
use Rattle.std.specs.Prelude.{◌==◌, is_some, Option, Some, None, codes, decimal, length}
use Rattle.std.specs.List.{flat_map}
use Rattle.notation.specs.declared.entry.{Ball.Ball, Kind.Kind, Leave.Leave, Plain.Plain, Side.Side}
use Rattle.notation.specs.declared.entry.Kind.TheVariants.{Bat, Bye, Leg, Wide, Nb, NbBye, NbLeg}
use Rattle.ball_laws.specs.History.{History}
use Rattle.match_laws.specs.Figures.{runs_of}
use Rattle.match_laws.specs.History.{begun, opponent, side_of}
use Rattle.cards.specs.Dismissals.{left_text}
use Rattle.cards.specs.Marks.{dead_mark, dot_mark, kind_mark, mark, mark_of, wicket_mark}
use Rattle.cards.specs.Sheet.{Sheet, name_of, player_of}
use Rattle.page.specs.Escapes.{name_html}
use Rattle.page.specs.Innings.{title_html}
use Rattle.page.specs.Markup.{HasListedMarkup}
use Rattle.page.specs.Overs as laws
use Rattle.page.specs.Overs.{all_overs, in_section, in_table, item_html, moment_html, overs_html}
use Rattle.page.specs.declared.moments.Moment.{Moment}
use Rattle.page.proofs.Marked.{both, decimal_marked, each_stays, four, markup, name_marked, one_of, three, up_to_marked}
use Rattle.page.proofs.MarkedInnings.{left_marked, title_marked}

-- ---- a delivery

front_marked : (b : Ball) → HasListedMarkup (laws.ball_front b)
front_marked b = one_of _ (is_some b.out) (codes "<li class='wicket'>") _ refl (one_of _ (laws.is_more b) (codes "<li class='more'>") (codes "<li>") refl refl)

kind_marked : (kind : Kind) → HasListedMarkup (kind_mark kind)
kind_marked Bat = refl
kind_marked Bye = refl
kind_marked Leg = refl
kind_marked Wide = refl
kind_marked Nb = refl
kind_marked NbBye = refl
kind_marked NbLeg = refl

runs_marked : (runs : ℕ) (kind : Kind) (is_out : Bool) → HasListedMarkup (mark runs kind is_out)
runs_marked runs kind is_out =
    one_of _ (runs == 0) (dot_mark is_out) _ (one_of _ is_out (codes "W") (codes ".") refl refl)
    (three (decimal runs) (kind_mark kind) (wicket_mark is_out) (decimal_marked runs) (kind_marked kind) (one_of _ is_out (codes "W") [] refl refl))

mark_marked : (b : Ball) → HasListedMarkup (laws.mark_html b)
mark_marked b =
    one_of _ ((runs_of b == 0) && not (is_some b.out)) (codes "&bull;") (mark_of b) refl (runs_marked (runs_of b) b.kind (is_some b.out))

ball_marked : (b : Ball) → HasListedMarkup (laws.ball_html b)
ball_marked b =
    four (laws.ball_front b) (laws.mark_html b) (dead_mark b.dead) _ (front_marked b) (mark_marked b) (one_of _ b.dead (codes "d") [] refl refl) refl

bowler_marked : (name : List ℕ) → HasListedMarkup (laws.bowler_html name)
bowler_marked name = both (name_html name) (codes "</span> <ol class='marks'>") (name_marked name) refl

before_marked : (last : Option ℕ) (overs bowler : ℕ) (name : List ℕ) → HasListedMarkup (laws.before_ball last overs bowler name)
before_marked None overs bowler name =
    both (laws.row_front (overs + 1)) (laws.bowler_html name)
    (both (decimal (overs + 1)) (codes "</th><td class='words'>") (decimal_marked (overs + 1)) refl) (bowler_marked name)
before_marked (Some last) overs bowler name =
    one_of _ (last == bowler) [] (codes "</ol> " ++ laws.bowler_html name) refl (bowler_marked name)

-- ---- the end of an over

score_marked : (total wickets : ℕ) → HasListedMarkup (laws.score_html total wickets)
score_marked total wickets = simp markup

word_marked : (balls : ℕ) → HasListedMarkup (laws.balls_word balls)
word_marked balls = one_of _ (balls == 1) (codes " ball)</span>") (codes " balls)</span>") refl refl

counted_marked : (balls : ℕ) (word : List ℕ) → HasListedMarkup word → HasListedMarkup (laws.counted_html balls word)
counted_marked balls word known = both (decimal balls) word (decimal_marked balls) known

count_marked : (balls : ℕ) → HasListedMarkup (laws.count_html balls)
count_marked balls =
    one_of _ (balls == 6) (codes "</ol>") (laws.counted_html balls (laws.balls_word balls)) refl (counted_marked balls (laws.balls_word balls) (word_marked balls))

end_marked : (m : Moment) → HasListedMarkup (laws.row_end m)
end_marked m = both (decimal m.over.runs) (laws.score_html m.total m.wickets) (decimal_marked m.over.runs) (score_marked m.total m.wickets)

open_marked : (m : Moment) → HasListedMarkup (laws.open_end m)
open_marked m = one_of _ (is_some m.over.bowler) (codes "</ol>" ++ laws.row_end m) [] (end_marked m) refl

-- ---- other events

aside_marked : (m : Moment) (text : List ℕ) → HasListedMarkup text → HasListedMarkup (laws.aside_html m text)
aside_marked m text known =
    one_of _ (is_some m.over.bowler) (laws.among_html text) (laws.between_html m text) (both text (codes "</li>") known refl)
    (three text _ (laws.score_html m.total m.wickets) known refl (score_marked m.total m.wickets))

gone_marked : (name : List ℕ) (way : Leave) → HasListedMarkup (laws.gone_html name way)
gone_marked name way = three (name_html name) (codes " ") (left_text way) (name_marked name) refl (left_marked way)

item_marked : (s : Sheet) (side : Side) (m : Moment) (x : Plain) → HasListedMarkup (item_html s side m x)
item_marked s side m (Plain.Ball b) =
    let name = player_of s (opponent side) b.bowler in
    both (laws.before_ball m.over.bowler m.overs b.bowler name) (laws.ball_html b) (before_marked m.over.bowler m.overs b.bowler name) (ball_marked b)
item_marked s side m Plain.Over = both (laws.count_html m.balls) (laws.row_end m) (count_marked m.balls) (end_marked m)
item_marked s side m (Plain.Gone way p) =
    aside_marked m (laws.gone_html (player_of s side p) way) (gone_marked (player_of s side p) way)
item_marked s side m (Plain.Penalty to law part) =
    aside_marked m (codes "5 penalty runs to " ++ name_html (name_of s to)) (name_marked (name_of s to))
item_marked s side m (Plain.End cause) = open_marked m
item_marked s side m Plain.Void = open_marked m
item_marked s side m _ = refl

moment_marked : (s : Sheet) (side : Side) (i : ℕ) (m : Moment) → HasListedMarkup (moment_html s side i m)
moment_marked s side i m = one_of _ ((m.innings == i) && m.on) (item_html s side m m.item) [] (item_marked s side m m.item) refl

-- ---- the tables

caption_marked : (title : List ℕ) → HasListedMarkup title → HasListedMarkup (laws.caption_html title)
caption_marked title known = both title _ known refl

table_marked : (title rows : List ℕ) → HasListedMarkup title → HasListedMarkup rows → HasListedMarkup (in_table title rows)
table_marked title rows left right =
    one_of _ (length rows == 0) [] (laws.table_html title rows) refl
    (three (laws.caption_html title) rows _ (caption_marked title left) right refl)

overs_marked : (s : Sheet) (n : ℕ) (h : History) (ms : List Moment) (i : ℕ) → HasListedMarkup (overs_html s n h ms i)
overs_marked s n h ms i =
    let row = moment_html s (side_of h i) i in
    table_marked (title_html s n h i) (flat_map row ms) (title_marked s n h i) (each_stays _ row (moment_marked s (side_of h i) i) ms)

section_marked : (tables : List ℕ) → HasListedMarkup tables → HasListedMarkup (in_section tables)
section_marked tables known = one_of _ (length tables == 0) [] (laws.section_html tables) refl (both tables (codes "</div>\n</section>\n") known refl)

pub all_overs_marked : (s : Sheet) (n : ℕ) (h : History) (ms : List Moment) → HasListedMarkup (in_section (all_overs s n h ms))
all_overs_marked s n h ms = section_marked (all_overs s n h ms) (up_to_marked (overs_html s n h ms) (overs_marked s n h ms) (begun h))
