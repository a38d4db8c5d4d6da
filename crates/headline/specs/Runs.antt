-- Runs from one configuration to the next, the newest event first, and what stations show in them.
use Rattle.std.specs.Prelude.{◌≡◌, ◌⊎◌, ℕ, Some, None, List, [], ◌∷◌, ◌++◌}
use Rattle.notation.specs.declared.entry.Entry.{Entry}
use Rattle.agree_core.specs.declared.messages.DeskId.{DeskId}
use Rattle.agree_core.specs.declared.messages.DeskId.TheVariants.{A, B}
use Rattle.agree_core.specs.Boards.{BoardState}
use Rattle.agree_core.specs.Desks.{DeskState}
use Rattle.agree_core.specs.Openings.{Creates}
use Rattle.headline.specs.declared.{event.Event.Event, event.Station.Station, version.FileVersion.FileVersion}
use Rattle.headline.specs.Setting.{Setting}
use Rattle.headline.specs.Configurations.{Process, Running, Down, Node, Configuration, board_at, fresh_boards, node}
use Rattle.headline.specs.Answers.{Answer}
use Rattle.headline.specs.Steps.{Step}

-- a desk that was just created, on a file of this version without votes, with no fault due
abbrev pub BeginsAt : {Disk Why : Type 0} → Setting Disk Why → FileVersion → DeskId → Node Disk → Type 0
BeginsAt s version d x =
    (k : DeskState _) × (x ≡ record { version = version; process = Running k; due = None })
    × Creates (s.view d version) d k

-- two desks that were just created, this many empty boards, and no message sent
pub record Begins
    {Disk Why : Type 0} (s : Setting Disk Why) (version : FileVersion) (boards : ℕ) (w : Configuration Disk)
    : Type 0 where
  pub a : BeginsAt s version A w.a
  pub b : BeginsAt s version B w.b
  pub boards_are_fresh : w.boards ≡ fresh_boards boards
  pub nothing_sent : w.sent ≡ []

-- an event, its answer, and the configuration after it
pub record Moment (Disk Why : Type 0) : Type 0 where
  pub event : Event
  pub answer : Answer Why
  pub after : Configuration Disk

-- the configuration after these moments, the newest first
abbrev pub last_of : {Disk Why : Type 0} → Configuration Disk → List (Moment Disk Why) → Configuration Disk
last_of w [] = w
last_of w (m ∷ ms) = m.after

-- each moment is a step from the one before, the first from this configuration; how a match begins is said in `Begins`
abbrev pub Run : {Disk Why : Type 0} → Setting Disk Why → Configuration Disk → List (Moment Disk Why) → Type 0
Run s w [] = Unit {0}
Run s w (m ∷ ms) = Run s w ms × Step s (last_of w ms) m.event m.answer m.after

-- the property holds at the start of a run, or after one of its events
abbrev pub AtSomeMoment :
    {Disk Why : Type 0} → Configuration Disk → List (Moment Disk Why) → (Configuration Disk → Type 0) → Type 0
AtSomeMoment w [] P = P w
AtSomeMoment w (m ∷ ms) P = P m.after ⊎ AtSomeMoment w ms P

-- the property holds at the start of a run and after each of its events
abbrev pub AtEachMoment :
    {Disk Why : Type 0} → Configuration Disk → List (Moment Disk Why) → (Configuration Disk → Type 0) → Type 0
AtEachMoment w [] P = P w
AtEachMoment w (m ∷ ms) P = P m.after × AtEachMoment w ms P

-- at the start of a run and after each of its events, the property holds of the moments so far
abbrev pub AfterEach : {Disk Why : Type 0} → List (Moment Disk Why) → (List (Moment Disk Why) → Type 0) → Type 0
AfterEach [] P = P []
AfterEach (m ∷ ms) P = P (m ∷ ms) × AfterEach ms P

-- the events, or the answers, of these moments, the oldest first
abbrev pub events_of : {Disk Why : Type 0} → List (Moment Disk Why) → List Event
events_of [] = []
events_of (m ∷ ms) = events_of ms ++ m.event ∷ []

abbrev pub answers_of : {Disk Why : Type 0} → List (Moment Disk Why) → List (Answer Why)
answers_of [] = []
answers_of (m ∷ ms) = answers_of ms ++ m.answer ∷ []

abbrev pub process_shows : {Disk : Type 0} → Process Disk → List Entry → Type 0
process_shows (Running k) book = k.book ≡ book
process_shows (Down votes disk) book = ⊥

-- a station that isn't down shows this book
abbrev pub Shows : {Disk : Type 0} → Configuration Disk → Station → List Entry → Type 0
Shows w (Station.Desk d) book = process_shows (node w d).process book
Shows w (Station.Board n) book = (k : BoardState) × (board_at w.boards n ≡ Some k) × (k.book ≡ book)
