-- How a desk's process ends.
use Rattle.std.specs.Prelude.{◌+◌, ℕ, List, Option, None, Result, Ok, Err}
use Rattle.wire.specs.declared.what.What.{What}
use Rattle.desk.specs.declared.refusal.Refusal.{Refusal}
use Rattle.streams.specs.declared.watched.WriteFailed.{WriteFailed}
use Rattle.live.specs.declared.ends.DeskEnd.{DeskEnd}
use Rattle.live.specs.Runs.{Logs}
use Rattle.station_texts.specs.declared.said.Said.{Said}
use Rattle.live.specs.declared.ends.DeskEnd.TheVariants.{Quit, Device, Write}

-- how a desk's process goes on: further, or to an end
abbrev pub Course : Type 0
Course = Result (Unit {0}) DeskEnd

abbrev pub further : Course
further = Ok tt

-- after a typed line: the process ends at `quit` and at a failed disk
abbrev pub end_of : Said → Course
end_of Said.Quit = Err Quit
end_of (Said.Refused e Refusal.Device) = Err Device
end_of (Said.Refused e Refusal.Failed) = Err Device
end_of answer = further

-- after the answer to a datagram
abbrev pub end_at : What → Course
end_at What.Device = Err Device
end_at What.Failed = Err Device
end_at what = further

-- a failed write ends the process, whatever its desk would do
abbrev pub ending : DeskEnd → Course
ending Write = further
ending end = Err end

abbrev pub course_of : {T : Type 0} → Result T DeskEnd → Course
course_of (Ok value) = further
course_of (Err end) = ending end

-- the writer's text; unknown if a write failed
abbrev pub known_to : DeskEnd → Option (List ℕ) → Option (List ℕ)
known_to Write told = None
known_to end told = told

abbrev pub known_at : {T : Type 0} → Result T DeskEnd → Option (List ℕ) → Option (List ℕ)
known_at (Ok value) told = told
known_at (Err end) told = known_to end told

-- all logs, with the writer's text unknown if a write failed
abbrev pub known_until : DeskEnd → Logs → Logs
known_until end logs = record logs { told = known_to end logs.told }

abbrev pub known_in : {T : Type 0} → Result T DeskEnd → Logs → Logs
known_in result logs = record logs { told = known_at result logs.told }

-- a failed write to the scorer's screen
abbrev pub written : Result (Unit {0}) WriteFailed → Course
written (Ok done) = further
written (Err fault) = Err Write

-- how the process ended after its last flush: a failed flush is reported, unless the disk failed
abbrev pub end_told : Course → Course → Course
end_told (Err Device) flushed = Err Device
end_told end (Err fault) = Err fault
end_told end (Ok done) = end

-- how many turns are over after this one
abbrev pub turns_after : {T : Type 0} → ℕ → Result T DeskEnd → ℕ
turns_after turns (Ok value) = turns + 1
turns_after turns (Err end) = turns
