-- What keeps a board from going on.
use Rattle.std.specs.Prelude.{ℕ, Bool, true, false, if◌then◌else◌, Option, Some, None}
use Rattle.board.specs.declared.trouble.{Trouble.Trouble, Why.Why}
use Rattle.board.specs.declared.trouble.Why.TheVariants.{Refused, Anew, Apart}

abbrev pub trouble_at : ℕ → Why → Trouble
trouble_at place why = record { place = place; why = why }

-- If both desks' votes are refused, or a desk's file is seen to lack lines, the book's next entry may be wrong:
-- the board takes nothing more.
abbrev pub stops : Why → Bool
stops Refused = true
stops Anew = true
stops Apart = false

abbrev pub is_stopped_by : Option Trouble → Bool
is_stopped_by None = false
is_stopped_by (Some trouble) = stops trouble.why

-- at another position only a trouble that stops the board remains
abbrev pub left_of : Option Trouble → Option Trouble
left_of None = None
left_of (Some trouble) = if stops trouble.why then Some trouble else None
