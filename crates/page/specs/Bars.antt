-- The chart of the runs of each over of an innings: s is the sheet, n the innings a side, h the history, i the innings, ms the
-- items of the match. A chart's y axis points up, and an over is ten units wide.
use Rattle.std.specs.Prelude.{ℕ, zero, suc, ◌+◌, ◌*◌, ◌==◌, ◌&&◌, nat_lt, Bool, true, false, is_some, if◌then◌else◌, List, [], ◌++◌, length, slice_get, Option, Some, None, codes, decimal}
use Rattle.std.specs.List.{flat_map}
use Rattle.notation.specs.declared.entry.{Plain.Plain, Side.Side}
use Rattle.notation.specs.declared.entry.Side.TheVariants.{Home, Away}
use Rattle.ball_laws.specs.History.{History}
use Rattle.match_laws.specs.Figures.{overs}
use Rattle.match_laws.specs.History.{begun, side_of}
use Rattle.cards.specs.Sheet.{Sheet}
use Rattle.json_fields.specs.Values.{up_to}
use Rattle.page.specs.Innings.{title_html}
use Rattle.page.specs.declared.moments.Moment.{Moment}

-- ---- which items end an over: its call, and the end of the innings or the book, if the over has a delivery

abbrev pub ends_at : Plain → Bool → Bool
ends_at Plain.Over bowled = true
ends_at (Plain.End cause) bowled = bowled
ends_at Plain.Void bowled = bowled
ends_at _ bowled = false

abbrev pub ends_over : Moment → Bool
ends_over m = ends_at m.item (is_some m.over.bowler)

abbrev pub is_drawn : ℕ → Moment → Bool
is_drawn i m = (m.innings == i) && (m.on && ends_over m)

-- ---- an over: a bar, six units high for each run, and above it a ring for each wicket

abbrev pub rect_svg : ℕ → ℕ → List ℕ
rect_svg x height = codes "<rect x='" ++ (decimal x ++ (codes "' y='0' width='8' height='" ++ (decimal height ++ codes "'/>")))

abbrev pub bar_svg : ℕ → ℕ → List ℕ
bar_svg called runs = rect_svg (called * 10) (runs * 6)

abbrev pub ring_svg : ℕ → ℕ → List ℕ
ring_svg x y = codes "<circle class='wicket' cx='" ++ (decimal x ++ (codes "' cy='" ++ (decimal y ++ codes "' r='3'/>")))

-- the ring of a wicket, after k others of the over
abbrev pub wicket_svg : ℕ → ℕ → ℕ → List ℕ
wicket_svg called runs k = ring_svg (called * 10 + 4) (runs * 6 + (k * 7 + 5))

abbrev pub wickets_svg : ℕ → ℕ → ℕ → List ℕ
wickets_svg called runs down = up_to (wicket_svg called runs) down

abbrev pub over_svg : Moment → List ℕ
over_svg m = bar_svg m.overs m.over.runs ++ wickets_svg m.overs m.over.runs m.over.down

abbrev pub over_in : ℕ → Moment → List ℕ
over_in i m = if is_drawn i m then over_svg m else []

-- ---- how large a chart is

abbrev pub larger : ℕ → ℕ → ℕ
larger a b = if nat_lt a b then b else a

-- the largest of f 0 up to f (k - 1), or 0
abbrev pub largest : (ℕ → ℕ) → ℕ → ℕ
largest f zero = 0
largest f (suc k) = larger (largest f k) (f k)

abbrev pub runs_in : ℕ → Option Moment → ℕ
runs_in i None = 0
runs_in i (Some m) = if is_drawn i m then m.over.runs else 0

abbrev pub most_runs : ℕ → List Moment → ℕ
most_runs i ms = largest (λ k. runs_in i (slice_get ms k)) (length ms)

abbrev pub most_overs : History → ℕ
most_overs h = largest (overs h) (begun h)

-- the width for this many called overs, and one more
abbrev pub width_of : ℕ → ℕ
width_of called = called * 10 + 10

-- ---- a figure

abbrev pub figure_front : ℕ → List ℕ
figure_front number = codes "<figure><figcaption id='chart-" ++ (decimal number ++ codes "'>")

abbrev pub picture_front : ℕ → ℕ → ℕ → List ℕ
picture_front number width height =
    codes "<svg role='img' overflow='visible' aria-labelledby='chart-" ++ (decimal number ++ (codes "' viewBox='0 -" ++ (decimal height ++ (codes " "
    ++ (decimal width ++ (codes " " ++ (decimal height ++ codes "'><g transform='scale(1 -1)'>")))))))

abbrev pub most_html : ℕ → List ℕ
most_html runs = codes ", " ++ (decimal runs ++ codes " at most</figcaption>")

-- the CSS class of an innings: each side has a colour, and each of its innings a line style
abbrev pub line_class : Side → ℕ → List ℕ
line_class Home i = if nat_lt i 2 then codes "s0" else codes "s2"
line_class Away i = if nat_lt i 2 then codes "s1" else codes "s3"

abbrev pub group_front : List ℕ → List ℕ
group_front class = codes "<g class='" ++ (class ++ codes "'>")

abbrev pub bars_caption : ℕ → List ℕ → ℕ → List ℕ
bars_caption number title most = figure_front number ++ codes "Runs an over: " ++ title ++ most_html most

abbrev pub bars_picture : ℕ → ℕ → ℕ → List ℕ → List ℕ → List ℕ
bars_picture number called most class bars =
    picture_front number (width_of called) (most * 6 + 20) ++ group_front class ++ bars ++ codes "</g></g></svg></figure>\n"

abbrev pub bars_html : Sheet → ℕ → History → List Moment → ℕ → List ℕ
bars_html s n h ms i =
    bars_caption (i + 1) (title_html s n h i) (most_runs i ms)
    ++ bars_picture (i + 1) (most_overs h) (most_runs i ms) (line_class (side_of h i) i) (flat_map (over_in i) ms)

abbrev pub all_bars : Sheet → ℕ → History → List Moment → List ℕ
all_bars s n h ms = up_to (bars_html s n h ms) (begun h)
