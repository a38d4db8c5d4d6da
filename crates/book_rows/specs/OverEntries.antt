-- The entries of an over, each with its place; a delivery with its number, bowler, batter and mark. s is the sheet, i the
-- innings, side the side that bats in it, and n the over, from 1.
use Rattle.std.specs.Prelude.{ℕ, ◌+◌, ◌-◌, ◌==◌, ◌||◌, ◌&&◌, nat_lt, Bool, false, if◌then◌else◌, Option, Some, None, List, [], ◌∷◌, ◌++◌, codes, decimal}
use Rattle.notation.specs.declared.entry.{Ball.Ball, Entry.Entry, Plain.Plain, Side.Side}
use Rattle.notation.specs.declared.entry.Entry.TheVariants.{Write}
use Rattle.ball_laws.specs.History.{History}
use Rattle.ball_laws.specs.Laws.{state_after}
use Rattle.match_laws.specs.History.{begun, opponent, side_eq, side_of}
use Rattle.match_laws.specs.Result.{current}
use Rattle.corrections.specs.declared.placed.Placed.{Placed}
use Rattle.corrections.specs.CleanList.{clean_items_of, history_of}
use Rattle.cards.specs.Columns.{right}
use Rattle.cards.specs.Page.{placed_entry}
use Rattle.cards.specs.Sheet.{Sheet, player_of}
use Rattle.over_numbers.specs.declared.count.Count.{Count}
use Rattle.over_numbers.specs.Counts.{counted, is_in_over}
use Rattle.cards.specs.Marks.{spaced_mark}

-- ---- an entry after the count c of its innings, with this striker

-- a delivery's number, as 9.2: its over, and which delivery of it
abbrev pub ball_number : Count → List ℕ
ball_number c = decimal (c.overs + 1) ++ codes "." ++ decimal (c.balls + 1)

abbrev pub batter_name : Sheet → Side → Option ℕ → List ℕ
batter_name s side None = codes "-"
batter_name s side (Some p) = player_of s side p

abbrev pub to_batter : Sheet → Side → Option ℕ → Ball → List ℕ
to_batter s side striker b =
    codes " " ++ player_of s (opponent side) b.bowler ++ codes " to " ++ batter_name s side striker ++ codes ":"

abbrev pub ball_text : Sheet → Side → Count → Option ℕ → Ball → List ℕ
ball_text s side c striker b = ball_number c ++ to_batter s side striker b ++ spaced_mark b

-- a delivery with its place; any other entry as it is written
abbrev pub item_text : Sheet → Side → Count → Option ℕ → ℕ → Plain → List ℕ
item_text s side c striker place (Plain.Ball b) = right 4 (decimal place) ++ codes " " ++ ball_text s side c striker b
item_text s side c striker place x = placed_entry place (Write x)

abbrev pub line_if : Sheet → Side → ℕ → ℕ → Count → Option ℕ → Placed → List ℕ
line_if s side i n c striker x =
    if is_in_over c i n then item_text s side c striker x.place x.item ++ codes "\n" else []

-- ---- an over

-- the row of an item after the history h, if it belongs to the over
abbrev pub over_line : Sheet → Side → ℕ → ℕ → History → Placed → List ℕ
over_line s side i n h x = line_if s side i n (counted h) (state_after h).ends.striker x

-- the rows of items, each after those before it
abbrev pub lines_behind : (History → Placed → List ℕ) → History → List Placed → List ℕ
lines_behind line h [] = []
lines_behind line h (x ∷ xs) = line h x ++ lines_behind line (x.item ∷ h) xs

-- one of the items after the history belongs to the over
abbrev pub has_over : ℕ → ℕ → History → List Placed → Bool
has_over i n h [] = false
has_over i n h (x ∷ xs) = is_in_over (counted h) i n || has_over i n (x.item ∷ h) xs

-- the entries of an over of an innings of the book
abbrev pub over_lines : Sheet → List Entry → ℕ → ℕ → List ℕ
over_lines s book i n = lines_behind (over_line s (side_of (history_of book) i) i n) [] (clean_items_of book)

abbrev pub over_of : Sheet → List Entry → ℕ → ℕ → List ℕ
over_of s book i n = if has_over i n [] (clean_items_of book) then over_lines s book i n else codes "no such over\n"

-- those of the innings begun last
abbrev pub over_last : Sheet → List Entry → ℕ → List ℕ
over_last s book n =
    if begun (history_of book) == 0 then codes "No play\n" else over_of s book (current (history_of book)) n

-- ---- an innings by its side, as the side's first or second

abbrev pub all_innings : List ℕ
all_innings = 0 ∷ 1 ∷ 2 ∷ 3 ∷ []

-- the innings has begun, and the side bats in it
abbrev pub is_of_side : History → Side → ℕ → Bool
is_of_side h side i = nat_lt i (begun h) && side_eq (side_of h i) side

abbrev pub innings_among : History → Side → ℕ → List ℕ → Option ℕ
innings_among h side k [] = None
innings_among h side k (i ∷ is) =
    if is_of_side h side i then (if k == 1 then Some i else innings_among h side (k - 1) is) else innings_among h side k is

abbrev pub over_if : Sheet → List Entry → ℕ → Option ℕ → List ℕ
over_if s book n None = codes "no such innings yet\n"
over_if s book n (Some i) = over_of s book i n

abbrev pub over_by_side : Sheet → List Entry → ℕ → Side → ℕ → List ℕ
over_by_side s book n side k = over_if s book n (innings_among (history_of book) side k all_innings)
