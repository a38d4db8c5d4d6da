-- A schedule as text: one event a line, and one text for each event.
use Rattle.std.specs.Prelude.{◌≡◌, ◌≢◌, ◌+◌, ◌≤◌, ℕ, Some, All, List, [], ◌∷◌, ◌++◌, codes, decimal, length, map, ⊤}
use Rattle.notation.specs.declared.fault.LineFault.{LineFault}
use Rattle.std.specs.List.{join_with_byte}
use Rattle.notation.specs.Written.{IsEntry, Token, entry_words}
use Rattle.notation.specs.Fault.{first_fault}
use Rattle.agree_core.specs.declared.messages.DeskId.{DeskId}
use Rattle.agree_core.specs.declared.messages.DeskId.TheVariants.{A, B}
use Rattle.entry_log.specs.declared.mem_disk.choice.Choice.{Choice}
use Rattle.headline.specs.declared.event.{Event.Event, Station.Station}
use Rattle.schedules.specs.declared.schedule_fault.ScheduleFault.{ScheduleFault}
use Rattle.schedules.specs.declared.schedule_fault.ScheduleFault.TheVariants.{NoMemory, BadEvent, BadEntry}

abbrev pub desk_word : DeskId → Token
desk_word A = codes "a"
desk_word B = codes "b"

abbrev pub station_word : Station → Token
station_word (Station.Desk d) = desk_word d
station_word (Station.Board n) = decimal n

abbrev pub choice_words : Choice → List Token
choice_words Choice.Lost = codes "lost" ∷ []
choice_words Choice.Kept = codes "kept" ∷ []
choice_words (Choice.Fill v) = codes "fill" ∷ decimal v ∷ []

-- the words of an event
abbrev pub event_words : Event → List Token
event_words (Event.Pen d e) = codes "pen" ∷ desk_word d ∷ entry_words e
event_words (Event.Tick t) = codes "tick" ∷ station_word t ∷ []
event_words (Event.Give m t) = codes "give" ∷ decimal m ∷ station_word t ∷ []
event_words (Event.Kill d) = codes "kill" ∷ desk_word d ∷ []
event_words (Event.Power d choice) = codes "power" ∷ desk_word d ∷ choice_words choice
event_words (Event.FailAt d n) = codes "fail" ∷ desk_word d ∷ decimal n ∷ []
event_words (Event.StopAt d n) = codes "stop" ∷ desk_word d ∷ decimal n ∷ []
event_words (Event.Open d) = codes "open" ∷ desk_word d ∷ []
event_words (Event.Wipe n) = codes "wipe" ∷ decimal n ∷ []
event_words (Event.Migrate d) = codes "migrate" ∷ desk_word d ∷ []

-- the line of an event: its words with one space between them
abbrev pub event_text : Event → List ℕ
event_text e = join_with_byte 32 (event_words e)

-- the line of a pen with this entry line, whatever that says
abbrev pub pen_line : DeskId → List ℕ → List ℕ
pen_line d entry = join_with_byte 32 (codes "pen" ∷ desk_word d ∷ entry ∷ [])

-- the ranges of the numbers
abbrev pub IsWrittenBoard : ℕ → Type 0
IsWrittenBoard n = (1 ≤ n) × (n ≤ 4)

abbrev pub IsWrittenStation : Station → Type 0
IsWrittenStation (Station.Desk d) = Unit {0}
IsWrittenStation (Station.Board n) = IsWrittenBoard n

abbrev pub IsWrittenChoice : Choice → Type 0
IsWrittenChoice (Choice.Fill v) = v ≤ 255
IsWrittenChoice _ = Unit {0}

abbrev pub IsWrittenCount : ℕ → Type 0
IsWrittenCount n = (1 ≤ n) × (n ≤ 1000)

-- an event that has a line: its numbers are in their ranges
abbrev pub IsWrittenEvent : Event → Type 0
IsWrittenEvent (Event.Pen d e) = IsEntry e
IsWrittenEvent (Event.Tick t) = IsWrittenStation t
IsWrittenEvent (Event.Give m t) = (m ≤ 65535) × IsWrittenStation t
IsWrittenEvent (Event.Power d choice) = IsWrittenChoice choice
IsWrittenEvent (Event.FailAt d n) = IsWrittenCount n
IsWrittenEvent (Event.StopAt d n) = IsWrittenCount n
IsWrittenEvent (Event.Wipe n) = IsWrittenBoard n
IsWrittenEvent _ = Unit {0}

-- the lines are those of these events, one after another
pub record IsScheduleOf (lines : List (List ℕ)) (events : List Event) : Type 0 where
  pub written : All IsWrittenEvent events
  pub texts : lines ≡ map event_text events

-- a pen line whose entry line has this first fault
abbrev pub HasBadEntry : LineFault → List ℕ → Type 0
HasBadEntry fault line =
    (d : DeskId) × (entry : List ℕ) × (line ≡ pen_line d entry) × (first_fault entry ≡ Some fault)

-- the line is neither an event's nor a pen's
pub record IsNoEvent (line : List ℕ) : Type 0 where
  pub no_event : (e : Event) → IsWrittenEvent e → line ≢ event_text e
  pub no_pen : (d : DeskId) (entry : List ℕ) → line ≢ pen_line d entry

-- line n, counted from 1, has this fault, and each line before it is an event's
pub record IsFirstAtFault (lines : List (List ℕ)) (n : ℕ) (Wrong : List ℕ → Type 0) : Type 0 where
  pub before : List Event
  pub line : List ℕ
  pub after : List (List ℕ)
  pub written : All IsWrittenEvent before
  pub texts : lines ≡ map event_text before ++ (line ∷ after)
  pub number : n ≡ length before + 1
  pub wrong : Wrong line

-- why the lines are no schedule; or memory ran out
abbrev pub HasFault : List (List ℕ) → ScheduleFault → Type 0
HasFault lines NoMemory = ⊤
HasFault lines (BadEvent n) = IsFirstAtFault lines n IsNoEvent
HasFault lines (BadEntry n fault) = IsFirstAtFault lines n (HasBadEntry fault)
