-- The chart of how the totals grew: s is the sheet, n the innings a side, h the history, i the innings, ms the items of the match.
use Rattle.std.specs.Prelude.{ℕ, ◌+◌, ◌==◌, if◌then◌else◌, List, [], ◌++◌, codes, decimal}
use Rattle.std.specs.List.{flat_map}
use Rattle.ball_laws.specs.History.{History}
use Rattle.match_laws.specs.Figures.{total}
use Rattle.match_laws.specs.History.{begun, side_of}
use Rattle.cards.specs.Sheet.{Sheet}
use Rattle.json_fields.specs.Values.{up_to}
use Rattle.page.specs.Bars.{figure_front, is_drawn, largest, line_class, most_overs, picture_front, ring_svg, width_of}
use Rattle.page.specs.Innings.{title_html}
use Rattle.page.specs.declared.moments.Moment.{Moment}

-- ---- a line through the total after each over, with a ring if a wicket fell in the over

abbrev pub point_svg : Moment → List ℕ
point_svg m = codes "L" ++ (decimal (width_of m.overs) ++ (codes " " ++ decimal m.total))

abbrev pub point_in : ℕ → Moment → List ℕ
point_in i m = if is_drawn i m then point_svg m else []

abbrev pub mark_svg : Moment → List ℕ
mark_svg m = if m.over.down == 0 then [] else ring_svg (width_of m.overs) m.total

abbrev pub mark_in : ℕ → Moment → List ℕ
mark_in i m = if is_drawn i m then mark_svg m else []

abbrev pub line_svg : List ℕ → List ℕ → List ℕ → List ℕ
line_svg class points marks =
    codes "<path class='growth " ++ (class ++ (codes "' vector-effect='non-scaling-stroke' d='M0 0" ++ (points ++ (codes "'/>" ++ marks))))

abbrev pub line_of : History → List Moment → ℕ → List ℕ
line_of h ms i = line_svg (line_class (side_of h i) i) (flat_map (point_in i) ms) (flat_map (mark_in i) ms)

abbrev pub all_lines : History → List Moment → List ℕ
all_lines h ms = up_to (line_of h ms) (begun h)

-- ---- the legend: a sample of the line of each innings

abbrev pub stroke_svg : List ℕ → List ℕ
stroke_svg class = codes "<li><svg viewBox='0 0 36 10' aria-hidden='true'><path class='growth " ++ (class ++ codes "' d='M1 5L35 5'/></svg>")

abbrev pub key_html : History → ℕ → List ℕ → List ℕ
key_html h i title = stroke_svg (line_class (side_of h i) i) ++ title ++ codes "</li>"

abbrev pub all_keys : Sheet → ℕ → History → List ℕ
all_keys s n h = up_to (λ i. key_html h i (title_html s n h i)) (begun h)

-- ---- all lines in one figure

abbrev pub most_total : History → ℕ
most_total h = largest (total h) (begun h)

abbrev pub caption_html : List ℕ → List ℕ
caption_html keys = codes "How the totals grew, over by over</figcaption><ul class='legend'>" ++ (keys ++ codes "</ul>")

abbrev pub lines_svg : List ℕ → List ℕ
lines_svg lines = lines ++ codes "</g></svg></figure>\n"

abbrev pub chart_html : ℕ → ℕ → List ℕ → List ℕ → List ℕ
chart_html called most keys lines =
    figure_front 0 ++ caption_html keys ++ picture_front 0 (width_of called) (most + 10) ++ lines_svg lines

abbrev pub growth_html : Sheet → ℕ → History → List Moment → List ℕ
growth_html s n h ms = chart_html (most_overs h) (most_total h) (all_keys s n h) (all_lines h ms)
