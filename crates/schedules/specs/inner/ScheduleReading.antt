-- Reading a line of a schedule from the left, for private functions only: what a line means is said in ScheduleLines.
use Rattle.std.specs.Prelude.{ℕ, ◌==◌, if◌then◌else◌, List, [], ◌∷◌, codes, drop, take, length, Option, Some, None, Result, Ok, Err}
use Rattle.std.specs.Str.{bytes_eq}
use Rattle.notation.specs.declared.{entry.Entry.Entry, fault.LineFault.LineFault}
use Rattle.notation.specs.Reading.{line_answer}
use Rattle.notation.specs.Written.{found_number}
use Rattle.agree_core.specs.declared.messages.DeskId.{DeskId}
use Rattle.agree_core.specs.declared.messages.DeskId.TheVariants.{A, B}
use Rattle.entry_log.specs.declared.mem_disk.choice.Choice.{Choice}
use Rattle.headline.specs.declared.event.{Event.Event, Station.Station}
use Rattle.schedules.specs.declared.schedule_fault.ScheduleFault.{ScheduleFault}
use Rattle.schedules.specs.declared.schedule_fault.ScheduleFault.TheVariants.{BadEvent, BadEntry}

infixl 10 ◌>>=◌
abbrev pub ◌>>=◌ : {A B : Type 0} → Option A → (A → Option B) → Option B
(Some x) >>= f = f x
None >>= f = None

abbrev pub with_first : ℕ → Option (List ℕ × List ℕ) → Option (List ℕ × List ℕ)
with_first b None = None
with_first b (Some p) = Some (b ∷ p.0, p.1)

-- the parts before and after the first space
unfoldable pub cut : List ℕ → Option (List ℕ × List ℕ)
cut [] = None
cut (b ∷ bs) = if b == 32 then Some ([], bs) else with_first b (cut bs)

unfoldable pub desk_at : List ℕ → Option DeskId
desk_at w = if bytes_eq w (codes "a") then Some A else if bytes_eq w (codes "b") then Some B else None

abbrev pub board_station : Option DeskId → List ℕ → Option Station
board_station (Some d) w = Some (Station.Desk d)
board_station None w = do
  n ← found_number 1 4 w
  Some (Station.Board n)

unfoldable pub station_at : List ℕ → Option Station
station_at w = board_station (desk_at w) w

unfoldable pub fill_at : List ℕ → Option Choice
fill_at ws = do
  p ← cut ws
  v ← (if bytes_eq p.0 (codes "fill") then found_number 0 255 p.1 else None)
  Some (Choice.Fill v)

unfoldable pub choice_at : List ℕ → Option Choice
choice_at ws =
    if bytes_eq ws (codes "lost") then Some Choice.Lost
    else if bytes_eq ws (codes "kept") then Some Choice.Kept
    else fill_at ws

-- two parts with a space between them
abbrev pub both_at : {X Y : Type 0} → (List ℕ → Option X) → (List ℕ → Option Y) → List ℕ → Option (X × Y)
both_at f g ws = do
  p ← cut ws
  x ← f p.0
  y ← g p.1
  Some (x, y)

unfoldable pub give_at : List ℕ → Option Event
give_at ws = both_at (found_number 0 65535) station_at ws >>= λ p. Some (Event.Give p.0 p.1)

unfoldable pub power_at : List ℕ → Option Event
power_at ws = both_at desk_at choice_at ws >>= λ p. Some (Event.Power p.0 p.1)

-- a desk, and a number of calls
unfoldable pub count_at : List ℕ → Option (DeskId × ℕ)
count_at ws = both_at desk_at (found_number 1 1000) ws

-- a reader of the words behind the first one
abbrev pub Reader : Type 0
Reader = List ℕ → Option Event

abbrev pub readers : List (List ℕ × Reader)
readers =
    (codes "tick", λ ws. station_at ws >>= λ t. Some (Event.Tick t)) ∷
    (codes "give", give_at) ∷
    (codes "kill", λ ws. desk_at ws >>= λ d. Some (Event.Kill d)) ∷
    (codes "power", power_at) ∷
    (codes "fail", λ ws. count_at ws >>= λ p. Some (Event.FailAt p.0 p.1)) ∷
    (codes "stop", λ ws. count_at ws >>= λ p. Some (Event.StopAt p.0 p.1)) ∷
    (codes "open", λ ws. desk_at ws >>= λ d. Some (Event.Open d)) ∷
    (codes "wipe", λ ws. found_number 1 4 ws >>= λ n. Some (Event.Wipe n)) ∷
    (codes "migrate", λ ws. desk_at ws >>= λ d. Some (Event.Migrate d)) ∷ []

abbrev pub pick : List ℕ → List (List ℕ × Reader) → Reader
pick first [] ws = None
pick first (r ∷ rs) ws = if bytes_eq first r.0 then r.1 ws else pick first rs ws

-- an event that isn't a pen
unfoldable pub event_at : List ℕ → Option Event
event_at line = do
  p ← cut line
  pick p.0 readers p.1

-- the rest of the line behind this start
abbrev pub after_start : List ℕ → List ℕ → Option (List ℕ)
after_start start line =
    if bytes_eq (take (length start) line) start then Some (drop (length start) line) else None

abbrev pub pen_of : Option (List ℕ) → Option (List ℕ) → Option (DeskId × List ℕ)
pen_of (Some entry) other = Some (A, entry)
pen_of None (Some entry) = Some (B, entry)
pen_of None None = None

-- the desk and the entry line of a pen line
unfoldable pub pen_at : List ℕ → Option (DeskId × List ℕ)
pen_at line = pen_of (after_start (codes "pen a ") line) (after_start (codes "pen b ") line)

abbrev pub penned : ℕ → DeskId → Result Entry LineFault → Result Event ScheduleFault
penned n d (Ok e) = Ok (Event.Pen d e)
penned n d (Err fault) = Err (BadEntry n fault)

abbrev pub event_or : ℕ → Option Event → Result Event ScheduleFault
event_or n (Some e) = Ok e
event_or n None = Err (BadEvent n)

abbrev pub pen_or : ℕ → Option (DeskId × List ℕ) → List ℕ → Result Event ScheduleFault
pen_or n (Some p) line = penned n p.0 (line_answer p.1)
pen_or n None line = event_or n (event_at line)

-- what line n says: its event, or its fault
unfoldable pub line_says : ℕ → List ℕ → Result Event ScheduleFault
line_says n line = pen_or n (pen_at line) line
