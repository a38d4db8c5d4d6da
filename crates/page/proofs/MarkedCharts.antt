-- How HTML reads the charts.
use Rattle.std.proofs.Common.{◌≡◌, ℕ, ◌+◌, ◌*◌, List, [], refl}
use Rattle.std.specs.Prelude.{◌==◌, nat_lt, codes}
use Rattle.std.specs.List.{flat_map}
use Rattle.notation.specs.declared.entry.Side.{Side}
use Rattle.notation.specs.declared.entry.Side.TheVariants.{Home, Away}
use Rattle.ball_laws.specs.History.{History}
use Rattle.match_laws.specs.History.{begun, side_of}
use Rattle.cards.specs.Sheet.{Sheet}
use Rattle.page.specs.Bars as bars
use Rattle.page.specs.Bars.{figure_front, is_drawn, line_class, most_overs, most_runs, picture_front, ring_svg, width_of}
use Rattle.page.specs.Charts.{charts_html, course_html, figures_html}
use Rattle.page.specs.Growth as growth
use Rattle.page.specs.Innings.{title_html}
use Rattle.page.specs.Markup.{HasListedMarkup, read}
use Rattle.page.specs.Markup.Reading.{Value}
use Rattle.page.specs.Overs.{all_overs, in_section}
use Rattle.page.specs.declared.moments.Moment.{Moment}
use Rattle.page.proofs.Marked.{IsValue, both, each_stays, four, markup, one_of, three, up_to_marked}
use Rattle.page.proofs.MarkedInnings.{title_marked}
use Rattle.page.proofs.MarkedOvers.{all_overs_marked}

-- ---- parts of both charts

ring_marked : (x y : ℕ) → HasListedMarkup (ring_svg x y)
ring_marked x y = simp markup

front_marked : (number : ℕ) → HasListedMarkup (figure_front number)
front_marked number = simp markup

picture_marked : (number width height : ℕ) → HasListedMarkup (picture_front number width height)
picture_marked number width height = simp markup

class_value : (side : Side) (i : ℕ) → IsValue (line_class side i)
class_value Home i word = one_of (Value 39 word) (nat_lt i 2) (codes "s0") (codes "s2") refl refl
class_value Away i word = one_of (Value 39 word) (nat_lt i 2) (codes "s1") (codes "s3") refl refl

-- ---- the bars of the overs

rect_marked : (x height : ℕ) → HasListedMarkup (bars.rect_svg x height)
rect_marked x height = simp markup

over_marked : (m : Moment) → HasListedMarkup (bars.over_svg m)
over_marked m =
    let wicket = bars.wicket_svg m.overs m.over.runs in
    both (bars.bar_svg m.overs m.over.runs) (bars.wickets_svg m.overs m.over.runs m.over.down) (rect_marked (m.overs * 10) (m.over.runs * 6))
    (up_to_marked wicket (λ k. ring_marked (m.overs * 10 + 4) (m.over.runs * 6 + (k * 7 + 5))) m.over.down)

over_in_marked : (i : ℕ) (m : Moment) → HasListedMarkup (bars.over_in i m)
over_in_marked i m = one_of _ (is_drawn i m) (bars.over_svg m) [] (over_marked m) refl

most_marked : (runs : ℕ) → HasListedMarkup (bars.most_html runs)
most_marked runs = simp markup

group_marked : (class : List ℕ) → IsValue class → HasListedMarkup (bars.group_front class)
group_marked class known = simp (known, markup)

caption_marked : (number : ℕ) (title : List ℕ) (most : ℕ) → HasListedMarkup title → HasListedMarkup (bars.bars_caption number title most)
caption_marked number title most known =
    four (figure_front number) _ title (bars.most_html most) (front_marked number) refl known (most_marked most)

drawn_marked : (number called most : ℕ) (class drawn : List ℕ) → IsValue class → HasListedMarkup drawn →
    HasListedMarkup (bars.bars_picture number called most class drawn)
drawn_marked number called most class drawn known inside =
    four (picture_front number (width_of called) (most * 6 + 20)) (bars.group_front class) drawn _
    (picture_marked number (width_of called) (most * 6 + 20)) (group_marked class known) inside refl

bars_marked : (s : Sheet) (n : ℕ) (h : History) (ms : List Moment) (i : ℕ) → HasListedMarkup (bars.bars_html s n h ms i)
bars_marked s n h ms i =
    let class = line_class (side_of h i) i in
    let drawn = flat_map (bars.over_in i) ms in
    both (bars.bars_caption (i + 1) (title_html s n h i) (most_runs i ms)) (bars.bars_picture (i + 1) (most_overs h) (most_runs i ms) class drawn)
    (caption_marked (i + 1) (title_html s n h i) (most_runs i ms) (title_marked s n h i))
    (drawn_marked (i + 1) (most_overs h) (most_runs i ms) class drawn (class_value (side_of h i) i) (each_stays _ (bars.over_in i) (over_in_marked i) ms))

-- ---- how the totals grew

point_value : (i : ℕ) (m : Moment) → IsValue (growth.point_in i m)
point_value i m word =
    let drawn : read (Value 39 word) (growth.point_svg m) ≡ Value 39 word = simp markup in
    one_of (Value 39 word) (is_drawn i m) (growth.point_svg m) [] drawn refl

ring_or_none : (m : Moment) → HasListedMarkup (growth.mark_svg m)
ring_or_none m = one_of _ (m.over.down == 0) [] (ring_svg (width_of m.overs) m.total) refl (ring_marked (width_of m.overs) m.total)

mark_marked : (i : ℕ) (m : Moment) → HasListedMarkup (growth.mark_in i m)
mark_marked i m = one_of _ (is_drawn i m) (growth.mark_svg m) [] (ring_or_none m) refl

line_marked : (class points marks : List ℕ) → IsValue class → IsValue points → HasListedMarkup marks →
    HasListedMarkup (growth.line_svg class points marks)
line_marked class points marks left middle right = simp (left, middle, right, markup)

line_of_marked : (h : History) (ms : List Moment) (i : ℕ) → HasListedMarkup (growth.line_of h ms i)
line_of_marked h ms i =
    line_marked (line_class (side_of h i) i) (flat_map (growth.point_in i) ms) (flat_map (growth.mark_in i) ms) (class_value (side_of h i) i)
    (λ word. each_stays (Value 39 word) (growth.point_in i) (λ m. point_value i m word) ms) (each_stays _ (growth.mark_in i) (mark_marked i) ms)

stroke_marked : (class : List ℕ) → IsValue class → HasListedMarkup (growth.stroke_svg class)
stroke_marked class known = simp (known, markup)

key_marked : (s : Sheet) (n : ℕ) (h : History) (i : ℕ) → HasListedMarkup (growth.key_html h i (title_html s n h i))
key_marked s n h i =
    let class = line_class (side_of h i) i in
    three (growth.stroke_svg class) (title_html s n h i) _ (stroke_marked class (class_value (side_of h i) i)) (title_marked s n h i) refl

chart_marked : (called most : ℕ) (keys lines : List ℕ) → HasListedMarkup keys → HasListedMarkup lines →
    HasListedMarkup (growth.chart_html called most keys lines)
chart_marked called most keys lines left right =
    four (figure_front 0) (growth.caption_html keys) (picture_front 0 (width_of called) (most + 10)) (growth.lines_svg lines) (front_marked 0)
    (both keys (codes "</ul>") left refl) (picture_marked 0 (width_of called) (most + 10)) (both lines (codes "</g></svg></figure>\n") right refl)

growth_marked : (s : Sheet) (n : ℕ) (h : History) (ms : List Moment) → HasListedMarkup (growth.growth_html s n h ms)
growth_marked s n h ms =
    chart_marked (most_overs h) (growth.most_total h) (growth.all_keys s n h) (growth.all_lines h ms)
    (up_to_marked (λ i. growth.key_html h i (title_html s n h i)) (key_marked s n h) (begun h)) (up_to_marked (growth.line_of h ms) (line_of_marked h ms) (begun h))

-- ---- the course of a match

figures_marked : (s : Sheet) (n : ℕ) (h : History) (ms : List Moment) → HasListedMarkup (figures_html s n h ms)
figures_marked s n h ms =
    three (bars.all_bars s n h ms) (growth.growth_html s n h ms) _ (up_to_marked (bars.bars_html s n h ms) (bars_marked s n h ms) (begun h))
    (growth_marked s n h ms) refl

pub course_marked : (s : Sheet) (n : ℕ) (h : History) (ms : List Moment) → HasListedMarkup (course_html s n h ms)
course_marked s n h ms =
    both (in_section (all_overs s n h ms)) (charts_html s n h ms) (all_overs_marked s n h ms)
    (one_of _ (begun h == 0) [] (figures_html s n h ms) refl (figures_marked s n h ms))
