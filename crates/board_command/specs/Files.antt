-- What a board's files are given of the books that it hands over.
use Rattle.std.specs.Prelude.{◌≡◌, ◌⊎◌, ◌-◌, ℕ, Bool, true, false, not, ◌&&◌, nat_eq, nat_le, if◌then◌else◌, List, ◌++◌, length, Option, Some, None, ⊤, codes}
use Rattle.board.specs.declared.trouble.{Trouble.Trouble, Why.Why}
use Rattle.board.specs.declared.trouble.Why.TheVariants.{Refused, Anew, Apart}
use Rattle.corrections.specs.CleanList.{history_of}
use Rattle.cards.specs.Board.{board as six_lines}
use Rattle.live.specs.Sights.{Sight}
use Rattle.machine_files.specs.Texts.{IsGiven}
use Rattle.scoreboard.specs.Value.{board_text}
use Rattle.board_command.specs.declared.files.{Files.Files, Kept.Kept, Moment.Moment, Tried.Tried}
use Rattle.board_command.specs.declared.files.TheConstants.{FOREVER}
use Rattle.board_command.specs.declared.hearing.HeardAt.{HeardAt}
use Rattle.board_command.specs.Hearing.{is_heard, is_silent, last_heard}
use Rattle.board_command.specs.declared.times.TheConstants.{FILE_RETRY_WAIT, LONGEST_STATE_AGE, SHORTEST_FILE_AGE}

-- what is handed over at this time, by a board that heard its desks at these times
abbrev pub moment_of : Sight → HeardAt → ℕ → Moment
moment_of s heard now = record { entries = length s.book; trouble = s.trouble; heard = heard; now = now }

-- the texts of a book that is handed over: its six lines, its state as JSON, and that JSON as a script for a page that was
-- opened from a folder: a JSON value in printable ASCII is one of JavaScript
abbrev pub lines_of : Sight → List ℕ
lines_of s = six_lines s.sheet s.innings (history_of s.book)

abbrev pub state_of : Sight → HeardAt → ℕ → List ℕ
state_of s heard now = board_text s.sheet s.innings s.book (last_heard heard now) s.trouble

abbrev pub script_with : List ℕ → List ℕ
script_with state = codes "window.yermudosh = " ++ state

abbrev pub script_of : Sight → HeardAt → ℕ → List ℕ
script_of s heard now = script_with (state_of s heard now)

abbrev pub silent_at : Moment → Bool
silent_at m = is_silent m.heard m.now

-- both are true, or both false
abbrev pub same : Bool → Bool → Bool
same true b = b
same false b = not b

-- the same trouble keeps a board from going on both times, or none does
abbrev pub same_why : Why → Why → Bool
same_why Refused Refused = true
same_why Anew Anew = true
same_why Apart Apart = true
same_why one other = false

abbrev pub same_trouble : Option Trouble → Option Trouble → Bool
same_trouble None None = true
same_trouble (Some one) (Some other) = nat_eq one.place other.place && same_why one.why other.why
same_trouble one other = false

-- a try is noted: the number of entries, the board's trouble, whether the desks were silent, when it was, and whether it failed
abbrev pub tried_at : Moment → Bool → Tried
tried_at m failed = record { entries = m.entries; trouble = m.trouble; is_silent = silent_at m; at = m.now; has_failed = failed }

-- the book has as many entries, the board has the same trouble, and the desks are as silent as they were
abbrev pub has_all : Tried → Moment → Bool
has_all tried m =
    nat_eq tried.entries m.entries && (same_trouble tried.trouble m.trouble && same tried.is_silent (silent_at m))

-- how long a try stands before the next, in milliseconds: a second if it failed, a tenth of one if something else is to be
-- told, and otherwise the longest time
abbrev pub wait_of : Tried → Moment → ℕ → ℕ
wait_of tried m longest =
    if tried.has_failed then FILE_RETRY_WAIT
    else (if has_all tried m then longest else SHORTEST_FILE_AGE)

-- whether the file is due: never before a desk was heard; then at once, and again when its time is over
abbrev pub is_past : Option Tried → Moment → ℕ → Bool
is_past None m longest = true
is_past (Some tried) m longest = nat_le (wait_of tried m longest) (m.now - tried.at)

abbrev pub is_due : Option Tried → Moment → ℕ → Bool
is_due tried m longest = is_heard m.heard && is_past tried m longest

module _ {T E : Type 0} (given : T → Option (List (List ℕ))) (longest : ℕ) (m : Moment) (text : List ℕ) where
  -- the file is given exactly this text, or it couldn't be written; which of both is noted
  abbrev pub IsPut : Kept T E → Kept T E → Type 0
  IsPut old new =
      ((new.tried ≡ Some (tried_at m false)) × IsGiven (given old.file) (given new.file) text)
      ⊎ ((new.tried ≡ Some (tried_at m true)) × (given new.file ≡ given old.file))

  -- the file is written if and only if it is due
  abbrev pub IsKept : Kept T E → Kept T E → Type 0
  IsKept old new =
      (is_due old.tried m longest ≡ true → IsPut old new)
      × (is_due old.tried m longest ≡ false → (new.tried ≡ old.tried) × (given new.file ≡ given old.file))

  -- the file, if there is one, is written if and only if it is due
  abbrev pub AreKept : Option (Kept T E) → Option (Kept T E) → Type 0
  AreKept None None = ⊤
  AreKept (Some old) (Some new) = IsKept old new
  AreKept _ _ = ⊥

-- Once a desk was heard, each file that lacks what is handed over is given exactly its text: its lines, its state or its
-- script. State and script are also given anew when they get old. Before a desk was heard each file is left as it is.
pub record FilesGoOn
    {T E B : Type 0} (given : T → Option (List (List ℕ))) (heard : HeardAt) (old : Files T E B) (sight : Sight) (now : ℕ)
    (new : Files T E B) : Type 0 where
  pub lines : AreKept given FOREVER (moment_of sight heard now) (lines_of sight) old.text new.text
  pub state : AreKept given LONGEST_STATE_AGE (moment_of sight heard now) (state_of sight heard now) old.state new.state
  pub script : AreKept given LONGEST_STATE_AGE (moment_of sight heard now) (script_of sight heard now) old.script new.script
