use Rattle.std.proofs.Common.{◌≡◌, ◌+◌, ◌≤◌, ℕ, List, ◌++◌, length, map}
use Rattle.std.specs.Prelude.{All}
use Rattle.headline.specs.declared.event.Event.{Event}
use Rattle.notation.specs.Lines.{lines_of}
use Rattle.schedules.specs.ScheduleLines.{event_text, IsWrittenEvent}
use Rattle.schedules.proofs.schedule_text.take_lines.Given as goal

-- the events so far are those of the lines already taken
pub record Midway (bytes : List ℕ) (lines : List (List ℕ)) (number : ℕ) (events : List Event) : Type 0 where
  pub numbered : number ≡ length events
  pub short : number + length lines ≤ length bytes
  pub written : All IsWrittenEvent events
  pub texts : lines_of bytes ≡ map event_text events ++ lines

abbrev pub invariant-loop-line : goal.invariant-loop-line
invariant-loop-line l = Midway l.bytes l.lines l.number l.events.items

abbrev pub decreases-loop-line : goal.decreases-loop-line
decreases-loop-line l = length l.lines
