-- The rows about what the sheet limits. s is the sheet, h the history and i the innings.
use Rattle.std.specs.Prelude.{ℕ, ◌/◌, ◌%◌, ◌==◌, ◌&&◌, ◌||◌, not, nat_lt, if◌then◌else◌, Bool, List, [], ◌∷◌, ◌++◌, Option, Some, None, option_map, codes, decimal}
use Rattle.ball_laws.specs.History.{History}
use Rattle.ball_laws.specs.Over.{numbers}
use Rattle.match_laws.specs.History.{begun, is_open}
use Rattle.match_laws.specs.Result.{current}
use Rattle.corrections.specs.Overs.{bowler_now}
use Rattle.limits.specs.Limits.{overs_for}
use Rattle.limits.specs.Rates.{an_over, two_places}
use Rattle.limits.specs.Figures.{overs_left, deliveries_left, overs_bowled, overs_yet, may_bowl, is_free_hit}
use Rattle.cards.specs.Sheet.{Sheet, player_of}
use Rattle.cards.specs.Bowling.{fielding}

-- ---- in the row of a match

-- the number of overs of the innings
abbrev pub of_overs : Option ℕ → List ℕ
of_overs None = []
of_overs (Some n) = codes " of " ++ decimal n

-- a rate of runs an over, if there is one
abbrev pub rate_text : Option ℕ → List ℕ
rate_text None = []
rate_text (Some x) = codes " (" ++ two_places x ++ codes ")"

-- after the runs needed: the deliveries left, and the runs an over that this asks for
abbrev pub off_text : ℕ → ℕ → List ℕ
off_text runs left = codes " off " ++ decimal left ++ rate_text (an_over runs left)

-- the deliveries left, if the sheet limits the overs
abbrev pub left_now : Sheet → History → ℕ → Option ℕ
left_now s h i = option_map (λ n. deliveries_left n h i) (overs_for s.limits i)

-- the next delivery is a free hit
abbrev pub is_free : Sheet → History → Bool
is_free s h = s.limits.free_hits && is_free_hit h

-- the note of a free hit, after the marks of the over or on a row below
abbrev pub free_text : Bool → Sheet → History → List ℕ
free_text is_here s h = if is_here && is_free s h then codes "  free hit" else []

abbrev pub free_row : Bool → Sheet → History → List ℕ
free_row is_here s h = if is_here && is_free s h then codes "  free hit\n" else []

-- a bowler who has bowled in more overs than he may is past them
abbrev pub past_text : ℕ → ℕ → List ℕ
past_text most bowled = if nat_lt most bowled then codes " past " ++ decimal most else []

abbrev pub past : Option ℕ → History → Option ℕ → List ℕ
past (Some most) h (Some p) = past_text most (overs_bowled p h)
past most h b = []

-- ---- in the check of an over

-- deliveries in overs: six make one, and those left stand after a point
abbrev pub rest_text : ℕ → List ℕ
rest_text rest = if rest == 0 then [] else codes "." ++ decimal rest

abbrev pub overs_word : ℕ → List ℕ
overs_word deliveries = if deliveries == 6 then codes " over left" else codes " overs left"

abbrev pub left_text : ℕ → List ℕ
left_text deliveries = decimal (deliveries / 6) ++ rest_text (deliveries % 6) ++ overs_word deliveries

-- all overs are bowled
abbrev pub all_bowled : ℕ → List ℕ
all_bowled n = decimal n ++ (if n == 1 then codes " over: end overs" else codes " overs: end overs")

abbrev pub innings_left : ℕ → History → ℕ → List ℕ
innings_left n h i = if overs_left n h i == 0 then all_bowled n else left_text (deliveries_left n h i)

-- a bowler's name, with how many overs he has bowled in and how many he may
abbrev pub bowled_of : Sheet → History → ℕ → ℕ → ℕ → List ℕ
bowled_of s h i most p =
    codes "  " ++ player_of s (fielding h i) p ++ codes " " ++ decimal (overs_bowled p h) ++ codes " of " ++ decimal most

-- that text for the bowler of the last delivery, if there is one and a limit
abbrev pub bowler_part : Sheet → History → ℕ → Option ℕ → Option ℕ → List ℕ
bowler_part s h i (Some most) (Some p) = bowled_of s h i most p
bowler_part s h i most b = []

-- that text as a row of its own
abbrev pub bowler_line : Sheet → History → ℕ → Option ℕ → Option ℕ → List ℕ
bowler_line s h i (Some most) (Some p) = bowled_of s h i most p ++ codes "\n"
bowler_line s h i most b = []

-- the row with what is left of n overs, and the bowler's overs
abbrev pub left_line : Sheet → History → ℕ → ℕ → List ℕ
left_line s h i n =
    codes "  " ++ innings_left n h i ++ bowler_part s h i s.limits.overs_a_bowler (bowler_now h) ++ codes "\n"

abbrev pub line_for : Sheet → History → ℕ → Option ℕ → List ℕ
line_for s h i None = bowler_line s h i s.limits.overs_a_bowler (bowler_now h)
line_for s h i (Some n) = left_line s h i n

-- the row about limits, while an innings is open
abbrev pub limits_line : Sheet → History → ℕ → List ℕ
limits_line s h i = if is_open h then line_for s h i (overs_for s.limits i) else []

-- ---- below the row of a match, for what has no room in it

-- a row with the overs of a bowler who is past his most
abbrev pub past_line : Sheet → History → ℕ → ℕ → ℕ → List ℕ
past_line s h i most p = if nat_lt most (overs_bowled p h) then bowled_of s h i most p ++ codes "\n" else []

abbrev pub past_row : Sheet → History → ℕ → Option ℕ → Option ℕ → List ℕ
past_row s h i (Some most) (Some p) = past_line s h i most p
past_row s h i most b = []

-- ---- who may bowl

abbrev pub yet_text : Option ℕ → ℕ → History → List ℕ
yet_text None p h = []
yet_text (Some most) p h = codes ", " ++ decimal (overs_yet most p h) ++ codes " left"

abbrev pub bowler_row : Sheet → History → ℕ → ℕ → List ℕ
bowler_row s h i p =
    decimal p ++ codes " " ++ player_of s (fielding h i) p ++ yet_text s.limits.overs_a_bowler p h ++ codes "\n"

-- the row of a player, if he may bowl the next delivery
abbrev pub row_if_may : Sheet → History → ℕ → ℕ → List ℕ
row_if_may s h i p = if may_bowl s.limits.overs_a_bowler p h then bowler_row s h i p else []

-- the rows of those among these players who may bowl
abbrev pub bowlers_among : Sheet → History → ℕ → List ℕ → List ℕ
bowlers_among s h i [] = []
bowlers_among s h i (p ∷ ps) = row_if_may s h i p ++ bowlers_among s h i ps

-- the rows of all who may bowl in the open innings
abbrev pub bowlers : Sheet → History → List ℕ
bowlers s h =
    if begun h == 0 || not (is_open h) then codes "No innings is open\n" else bowlers_among s h (current h) numbers
