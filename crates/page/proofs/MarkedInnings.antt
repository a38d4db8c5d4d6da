-- How HTML reads the cards of an innings: batters, falls, bowlers and partnerships.
use Rattle.std.proofs.Common.{ℕ, ◌+◌, Bool, true, false, List, [], ◌∷◌, ◌++◌, refl}
use Rattle.std.specs.Prelude.{◌==◌, Option, Some, None, codes, decimal, slice_get}
use Rattle.notation.specs.declared.entry.{Cause.Cause, How.How, Leave.Leave, Side.Side}
use Rattle.notation.specs.declared.entry.Side.TheVariants.{Home, Away}
use Rattle.ball_laws.specs.History.{History}
use Rattle.match_laws.specs.declared.{score.Extras.Extras, rows.BattingRow.BattingRow, rows.BowlingRow.BowlingRow, rows.Fall.Fall, rows.Fate.Fate}
use Rattle.match_laws.specs.Parts.{batting_row_of, bowling_row_of, extras_of}
use Rattle.match_laws.specs.History.{side_of, opponent}
use Rattle.match_laws.specs.Figures.{balls, batting_order, bowling_order, falls, overs, total, wickets}
use Rattle.limits.specs.Figures.{run_rate}
use Rattle.cards.specs.Batting.{all_extras, earlier_innings}
use Rattle.cards.specs.Bowling.{fielding}
use Rattle.cards.specs.Columns.{lines_from}
use Rattle.cards.specs.Dismissals.{fielder_name, left_text}
use Rattle.cards.specs.Sheet.{Sheet, name_of, player_of}
use Rattle.falls.specs.declared.fallen.FallAt.{FallAt}
use Rattle.falls.specs.Falls.{falls_at, falls_in}
use Rattle.export.specs.Innings.{needed_in}
use Rattle.page.specs.Batting as batting
use Rattle.page.specs.Bowling as bowling
use Rattle.page.specs.Dismissals.{both_html, caught_html, fate_html, out_html, run_out_html}
use Rattle.page.specs.Escapes.{escaped, name_html}
use Rattle.page.specs.Falls as falling
use Rattle.page.specs.Idle.{goes_on, idle, idle_html, label, listed, names_behind}
use Rattle.page.specs.Innings as innings
use Rattle.page.specs.Innings.{cause_in, innings_html, title_html}
use Rattle.page.specs.Markup.{HasListedMarkup}
use Rattle.page.specs.Stands as stands
use Rattle.page.specs.declared.{moments.Moment.Moment, stands.Partnership.Partnership}
use Rattle.page.proofs.Marked.{IsValue, both, decimal_marked, escaped_marked, four, lines_marked, markup, name_marked, numbered_marked, one_of, three}

-- ---- how batters are out

pub left_marked : (way : Leave) → HasListedMarkup (left_text way)
left_marked Leave.TimedOut = refl
left_marked Leave.RetiredOut = refl
left_marked Leave.RetiredHurt = refl
left_marked Leave.RunOut = refl

both_marked : (how fielder bowler : List ℕ) → HasListedMarkup how → HasListedMarkup (both_html how fielder bowler)
both_marked how fielder bowler known =
    both (how ++ name_html fielder) _ (both how (name_html fielder) known (name_marked fielder)) (name_marked bowler)

caught_marked : (own : Bool) (fielder bowler : List ℕ) → HasListedMarkup (caught_html own fielder bowler)
caught_marked true fielder bowler = name_marked bowler
caught_marked false fielder bowler = both_marked (codes "c ") fielder bowler refl

run_out_marked : (fielder : List ℕ) → HasListedMarkup (run_out_html fielder)
run_out_marked fielder = both (codes "run out (" ++ name_html fielder) (codes ")") (name_marked fielder) refl

out_marked : (how : How) (own : Bool) (fielder bowler : List ℕ) → HasListedMarkup (out_html how own fielder bowler)
out_marked How.Bowled own fielder bowler = name_marked bowler
out_marked How.Caught own fielder bowler = caught_marked own fielder bowler
out_marked How.Lbw own fielder bowler = name_marked bowler
out_marked How.Stumped own fielder bowler = both_marked (codes "st ") fielder bowler refl
out_marked How.HitWicket own fielder bowler = name_marked bowler
out_marked How.HitTwice own fielder bowler = refl
out_marked How.Obstructing own fielder bowler = refl
out_marked How.RunOut own fielder bowler = run_out_marked fielder

fate_marked : (s : Sheet) (side : Side) (fate : Option Fate) → HasListedMarkup (fate_html s side fate)
fate_marked s side None = refl
fate_marked s side (Some Fate.NotOut) = refl
fate_marked s side (Some Fate.Hurt) = refl
fate_marked s side (Some (Fate.Out out bowler)) =
    out_marked out.how (out.fielder == bowler) (fielder_name s side out.fielder) (player_of s side bowler)
fate_marked s side (Some (Fate.Left way)) = left_marked way

-- ---- the batting card

words_marked : (words : List ℕ) → HasListedMarkup words → HasListedMarkup (batting.words_cells words)
words_marked words known = both words _ known (both words (codes "</td>") known refl)

figures_marked : (row : BattingRow) → HasListedMarkup (batting.figures_of row)
figures_marked row = simp markup

batter_marked : (s : Sheet) (side : Side) (p : ℕ) (row : BattingRow) → HasListedMarkup (batting.row_html s side p row)
batter_marked s side p row =
    let fate = fate_html s (opponent side) row.fate in
    three (name_html (player_of s side p)) (batting.words_cells fate) (batting.figures_of row) (name_marked (player_of s side p))
    (words_marked fate (fate_marked s (opponent side) row.fate)) (figures_marked row)

kinds_marked : (x : Extras) → HasListedMarkup (batting.kinds_text x)
kinds_marked x = simp markup

runs_marked : (n : ℕ) → HasListedMarkup (batting.runs_cells n)
runs_marked n = simp markup

foot_marked : (label words : List ℕ) (n : ℕ) → HasListedMarkup label → HasListedMarkup words → HasListedMarkup (batting.foot_row label words n)
foot_marked label words n left right =
    three label (batting.words_cells words) (batting.runs_cells n) left (words_marked words right) (runs_marked n)

rate_marked : (rate : Option ℕ) → HasListedMarkup (batting.rate_text rate)
rate_marked None = refl
rate_marked (Some x) = simp markup

down_marked : (down called since : ℕ) → HasListedMarkup (batting.down_text down called since)
down_marked down called since = simp markup

at_marked : (h : History) (i : ℕ) → HasListedMarkup (batting.at_text h i)
at_marked h i =
    three (batting.down_text (wickets h i) (overs h i) (balls h i)) (batting.rate_text (run_rate h i)) (codes ")")
    (down_marked (wickets h i) (overs h i) (balls h i)) (rate_marked (run_rate h i)) refl

table_foot_marked : (h : History) (i : ℕ) → HasListedMarkup (batting.table_foot h i)
table_foot_marked h i =
    let x = extras_of h i in
    three (batting.extras_row x) (batting.total_row h i) _ (foot_marked (codes "Extras") (batting.kinds_text x) (all_extras x) refl (kinds_marked x))
    (foot_marked (codes "Total") (batting.at_text h i) (total h i) refl (at_marked h i)) refl

batting_marked : (s : Sheet) (h : History) (i : ℕ) → HasListedMarkup (batting.batting_html s h i)
batting_marked s h i =
    let name = name_of s (side_of h i) in
    three (batting.table_front s h i) (batting.batters_html s h i) (batting.table_foot h i) (three (name_html name) _ _ (name_marked name) refl refl)
    (lines_marked (batting.batter_html s h i) (λ p. batter_marked s (side_of h i) p (batting_row_of h i p)) (batting_order h i)) (table_foot_marked h i)

-- ---- the bowling card

bowled_marked : (row : BowlingRow) → HasListedMarkup (bowling.figures_front row)
bowled_marked row = simp markup

taken_marked : (row : BowlingRow) → HasListedMarkup (bowling.figures_back row)
taken_marked row = simp markup

bowler_marked : (s : Sheet) (side : Side) (p : ℕ) (row : BowlingRow) → HasListedMarkup (bowling.row_html s side p row)
bowler_marked s side p row =
    three (name_html (player_of s side p)) (bowling.figures_front row) (bowling.figures_back row) (name_marked (player_of s side p))
    (bowled_marked row) (taken_marked row)

bowling_marked : (s : Sheet) (h : History) (i : ℕ) → HasListedMarkup (bowling.bowling_html s h i)
bowling_marked s h i =
    let name = name_of s (fielding h i) in
    three (bowling.table_front s (fielding h i)) (bowling.bowlers_html s h i) _ (three (name_html name) _ _ (name_marked name) refl refl)
    (lines_marked (bowling.bowler_html s h i) (λ p. bowler_marked s (fielding h i) p (bowling_row_of h i p)) (bowling_order h i)) refl

-- ---- the falls of wickets

fall_at_marked : (at : Option FallAt) → HasListedMarkup (falling.at_html at)
fall_at_marked None = refl
fall_at_marked (Some at) = simp markup

fall_score_marked : (number total : ℕ) → HasListedMarkup (falling.score_html number total)
fall_score_marked number total = simp markup

fall_marked : (s : Sheet) (side : Side) (there : List FallAt) (k : ℕ) (fall : Fall) → HasListedMarkup (falling.fall_html s side there k fall)
fall_marked s side there k fall =
    let name = player_of s side fall.player in
    three (falling.score_html (k + 1) fall.total) (name_html name) (falling.at_html (slice_get there k)) (fall_score_marked (k + 1) fall.total)
    (name_marked name) (fall_at_marked (slice_get there k))

falls_marked : (s : Sheet) (h : History) (i : ℕ) → HasListedMarkup (falling.falls_html s h i)
falls_marked s h i =
    let there = falls_in (i + 1) (falls_at h) in
    let each = numbered_marked (falling.fall_html s (side_of h i) there) (fall_marked s (side_of h i) there) 0 (falls h i) in
    one_of _ (wickets h i == 0) [] _ refl (both (falling.each_fall s h i) (codes "</p>\n") each refl)

-- ---- partnerships

star_marked : (broken : Bool) → HasListedMarkup (stands.star broken)
star_marked true = refl
star_marked false = refl

stand_marked : (number runs : ℕ) (star : List ℕ) (balls : ℕ) → HasListedMarkup star → HasListedMarkup (stands.figures_html number runs star balls)
stand_marked number runs star balls known = simp (known, markup)

stands_marked : (rows : List ℕ) → HasListedMarkup rows → HasListedMarkup (stands.in_table rows)
stands_marked [] known = refl
stands_marked (b ∷ bs) known = both (b ∷ bs) (codes "</tbody></table>\n") known refl

partnerships_marked : (i : ℕ) (ms : List Moment) → HasListedMarkup (stands.partnerships_html i ms)
partnerships_marked i ms =
    let each : (n : ℕ) (x : Partnership) → HasListedMarkup (stands.row_html n x) = λ n x. stand_marked n x.runs (stands.star x.broken) x.balls (star_marked x.broken) in
    stands_marked (lines_from stands.row_html 1 (stands.partnerships i ms)) (numbered_marked stands.row_html each 1 (stands.partnerships i ms))

-- ---- who didn't bat

names_marked : (s : Sheet) (side : Side) (ps : List ℕ) → HasListedMarkup (names_behind s side ps)
names_marked s side [] = refl
names_marked s side (p ∷ ps) =
    both (codes ", " ++ name_html (player_of s side p)) (names_behind s side ps) (name_marked (player_of s side p)) (names_marked s side ps)

label_marked : (on : Bool) → HasListedMarkup (label on)
label_marked true = refl
label_marked false = refl

listed_marked : (s : Sheet) (side : Side) (on : Bool) (ps : List ℕ) → HasListedMarkup (listed s side on ps)
listed_marked s side on [] = refl
listed_marked s side on (p ∷ ps) =
    four (label on) (name_html (player_of s side p)) (names_behind s side ps) (codes "</p>\n") (label_marked on) (name_marked (player_of s side p))
    (names_marked s side ps) refl

idle_marked : (s : Sheet) (n : ℕ) (h : History) (i : ℕ) → HasListedMarkup (idle_html s n h i)
idle_marked s n h i = listed_marked s (side_of h i) (goes_on n h i) (idle h i)

-- ---- the heading of an innings

runs_for_marked : (runs down : ℕ) (words : List ℕ) → HasListedMarkup words → HasListedMarkup (innings.runs_for runs down words)
runs_for_marked runs down words known = simp (known, markup)

score_text_marked : (cause : Option Cause) (runs down : ℕ) → HasListedMarkup (innings.score_text cause runs down)
score_text_marked (Some Cause.AllOut) runs down = both (decimal runs) (codes " all out") (decimal_marked runs) refl
score_text_marked (Some Cause.NoBatter) runs down = both (decimal runs) (codes " all out") (decimal_marked runs) refl
score_text_marked (Some Cause.Declared) runs down = runs_for_marked runs down (codes " declared") refl
score_text_marked (Some Cause.Forfeited) runs down = runs_for_marked runs down (codes " forfeited") refl
score_text_marked (Some Cause.Overs) runs down = runs_for_marked runs down [] refl
score_text_marked None runs down = runs_for_marked runs down [] refl

overs_marked : (called since : ℕ) → HasListedMarkup (innings.overs_text called since)
overs_marked called since = simp markup

nth_marked : (n earlier : ℕ) → HasListedMarkup (innings.nth_text n earlier)
nth_marked n earlier = one_of _ (n == 1) [] (codes ", innings " ++ decimal (1 + earlier)) refl (decimal_marked (1 + earlier))

pub title_marked : (s : Sheet) (n : ℕ) (h : History) (i : ℕ) → HasListedMarkup (title_html s n h i)
title_marked s n h i =
    let name = name_of s (side_of h i) in
    let earlier = earlier_innings h (side_of h i) i in
    three (escaped name) (innings.nth_text n earlier) _ (escaped_marked name) (nth_marked n earlier) refl

side_value : (side : Side) → IsValue (innings.side_word side)
side_value Home word = refl
side_value Away word = refl

section_marked : (number : ℕ) (side : List ℕ) → IsValue side → HasListedMarkup (innings.section_front number side)
section_marked number side known = simp (known, markup)

score_marked : (h : History) (i : ℕ) (cause : Option Cause) → HasListedMarkup (innings.score_html h i cause)
score_marked h i cause =
    three (innings.score_text cause (total h i) (wickets h i)) (innings.overs_text (overs h i) (balls h i)) _
    (score_text_marked cause (total h i) (wickets h i)) (overs_marked (overs h i) (balls h i)) refl

heading_marked : (s : Sheet) (n : ℕ) (h : History) (i : ℕ) (xs : List Moment) → HasListedMarkup (innings.heading_html s n h i xs)
heading_marked s n h i xs =
    let side = innings.side_word (side_of h i) in
    four (innings.section_front (i + 1) side) (title_html s n h i) (codes " ") (innings.score_html h i (cause_in i xs))
    (section_marked (i + 1) side (side_value (side_of h i))) (title_marked s n h i) refl (score_marked h i (cause_in i xs))

-- ---- an innings

needed_marked : (last : Bool) (needed : ℕ) → HasListedMarkup (innings.needed_html last needed)
needed_marked true needed = both (decimal needed) (codes "</p>\n") (decimal_marked needed) refl
needed_marked false needed = refl

batting_part_marked : (s : Sheet) (n : ℕ) (h : History) (i : ℕ) → HasListedMarkup (innings.batting_part s n h i)
batting_part_marked s n h i =
    four (innings.target_html s h i) (batting.batting_html s h i) (idle_html s n h i) (falling.falls_html s h i)
    (needed_marked (innings.is_last s i) (needed_in h i)) (batting_marked s h i) (idle_marked s n h i) (falls_marked s h i)

bowling_part_marked : (s : Sheet) (h : History) (xs : List Moment) (i : ℕ) → HasListedMarkup (innings.bowling_part s h xs i)
bowling_part_marked s h xs i =
    three (bowling.bowling_html s h i) (stands.partnerships_html i xs) _ (bowling_marked s h i) (partnerships_marked i xs) refl

pub innings_marked : (s : Sheet) (n : ℕ) (h : History) (xs : List Moment) (i : ℕ) → HasListedMarkup (innings_html s n h xs i)
innings_marked s n h xs i =
    four (innings.heading_html s n h i xs) _ (innings.batting_part s n h i) (innings.bowling_part s h xs i) (heading_marked s n h i xs) refl
    (batting_part_marked s n h i) (bowling_part_marked s h xs i)
