-- How a row is fitted to the columns that sheet s gives it: first the team's name is left out, then letters of players'
-- names, down to four, then marks of the over. A row that is too long without marks loses the number of overs of the innings;
-- if that isn't enough, a bowler's limit and a free hit go to rows below, and at last the bowler goes to a row of his own.
use Rattle.std.specs.Prelude.{ℕ, ◌-◌, nat_le, nat_lt, if◌then◌else◌, Bool, true, false, ◌&&◌, List, ◌++◌, length, take, Option, None, bytes_eq, codes}
use Rattle.std.specs.List.{list_all}
use Rattle.cards.specs.Sheet.{Sheet, is_printable, longest_name}
use Rattle.score_rows.specs.declared.form.Form.{Form}
use Rattle.score_rows.specs.declared.form.Form.TheVariants.{Whole, WithoutTeam}
use Rattle.score_rows.specs.declared.form.Form.TheVariants.{TwelveLetters, TenLetters, EightLetters, SevenLetters, SixLetters, FiveLetters, FourLetters, WithoutLimit, FiguresAlone, TwoRows}
use Rattle.score_rows.specs.declared.room.Room.{Room}
use Rattle.score_rows.specs.declared.room.Room.TheVariants.{Left, Full}

abbrev pub fits : Sheet → List ℕ → Bool
fits s text = nat_le (length text) s.columns

abbrev pub all_columns : Sheet → Room
all_columns s = Left s.columns

abbrev pub is_left : Room → Bool
is_left (Left room) = true
is_left Full = false

-- the room left after a text
abbrev pub behind : Room → List ℕ → Room
behind (Left room) text = if nat_le (length text) room then Left (room - length text) else Full
behind Full text = Full

abbrev pub has_team : Form → Bool
has_team Whole = true
has_team form = false

-- the most letters of a player's name that are shown
abbrev pub letters : Form → ℕ
letters Whole = longest_name
letters WithoutTeam = longest_name
letters TwelveLetters = 12
letters TenLetters = 10
letters EightLetters = 8
letters SevenLetters = 7
letters SixLetters = 6
letters FiveLetters = 5
letters FourLetters = 4
letters WithoutLimit = 4
letters FiguresAlone = 4
letters TwoRows = 8

-- the number of overs of the innings, if the form shows it
abbrev pub limit_in : Form → Option ℕ → Option ℕ
limit_in WithoutLimit overs = None
limit_in FiguresAlone overs = None
limit_in TwoRows overs = None
limit_in form overs = overs

-- the bowler's limit and a free hit stand in the row, not below it
abbrev pub is_beside : Form → Bool
is_beside FiguresAlone = false
is_beside TwoRows = false
is_beside form = true

-- the bowler has a row of his own
abbrev pub is_two : Form → Bool
is_two TwoRows = true
is_two form = false

-- a bowler's most overs, if the row tells them, and if rows below do
abbrev pub beside : Form → Option ℕ → Option ℕ
beside form most = if is_beside form then most else None

abbrev pub below : Form → Option ℕ → Option ℕ
below form most = if is_beside form then None else most

-- the first form in which the row fits with all marks; else the first
-- of the last four in which it fits without them; else the last form
abbrev pub first_fit : (Form → Bool) → (Form → Bool) → Form
first_fit is_fit has_room =
    if is_fit Whole then Whole
    else if is_fit WithoutTeam then WithoutTeam
    else if is_fit TwelveLetters then TwelveLetters
    else if is_fit TenLetters then TenLetters
    else if is_fit EightLetters then EightLetters
    else if is_fit SevenLetters then SevenLetters
    else if is_fit SixLetters then SixLetters
    else if is_fit FiveLetters then FiveLetters
    else if has_room FourLetters then FourLetters
    else if has_room WithoutLimit then WithoutLimit
    else if has_room FiguresAlone then FiguresAlone
    else TwoRows

abbrev pub is_long : ℕ → List ℕ → Bool
is_long most name = nat_lt most (length name) && list_all is_printable name

-- two names look alike when cut
abbrev pub are_alike : ℕ → List ℕ → List ℕ → Bool
are_alike most one other =
    is_long most one && is_long most other && bytes_eq (take (most - 1) one) (take (most - 1) other)

-- a name of at most so many letters: a longer one is cut and ends in a point
abbrev pub cut : ℕ → List ℕ → List ℕ
cut most name = if is_long most name then take (most - 1) name ++ codes "." else name
