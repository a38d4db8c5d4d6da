-- Runs of one station: its calls, what they send, and what they print.
use Rattle.std.specs.Prelude.{◌≡◌, ℕ, List, [], ◌∷◌, ◌++◌, All, Option, Some, None, Result, Ok, Err}
use Rattle.std.specs.Io.KnownBytes.{Appends}
use Rattle.agree_core.specs.declared.messages.Message.{Message}
use Rattle.wire.specs.Layout.{IsMessage}
use Rattle.links.specs.Passed.{Passed, sends}
use Rattle.links.specs.declared.link.Receivers.{Receivers}
use Rattle.links.specs.Typing.{Input}
use Rattle.screen.specs.declared.told.Told.{Told}
use Rattle.live.specs.Ticks.{Beat, Ticking, reads}

-- the writer's text; unknown if a write failed
abbrev pub known : {T E : Type 0} → Result T E → Option (List ℕ) → Option (List ℕ)
known (Ok value) told = told
known (Err fault) told = None

-- the writer's text with this text added
abbrev pub with_text : Option (List ℕ) → List ℕ → Option (List ℕ)
with_text None text = None
with_text (Some told) text = Some (told ++ text)

-- what has passed at a station's link, what was typed there, what its clock has shown, its writer's text, and what was told as
-- values
pub record Logs : Type 0 where
  pub passed : List Passed
  pub typed : List Input
  pub readings : List ℕ
  pub told : Option (List ℕ)
  pub tellings : List Told

-- the logs once the writer has written this too
abbrev pub with_told : Logs → List ℕ → Logs
with_told logs text = record logs { told = with_text logs.told text }

-- the logs, with the writer's text unknown if a write failed
abbrev pub known_where : {T E : Type 0} → Result T E → Logs → Logs
known_where result logs = record logs { told = known result logs.told }

-- the logs of a station at which nothing is typed, and which tells no values
abbrev pub untyped : List Passed → List ℕ → Option (List ℕ) → Logs
untyped passed readings told = record {
  passed = passed;
  typed = [];
  readings = readings;
  told = told;
  tellings = [];
}

-- a call of a station, the messages that it sent, and the station after it
pub record Moment (State Call : Type 0) : Type 0 where
  pub call : Call
  pub out : List Message
  pub after : State

-- a kind of station in a match: what its calls do, the datagrams and the lines that a call is given, to whom its messages go,
-- what a call is to the clock, what the station saw of the clock, what a call prints, and what it tells as values
pub record Kind (State Call : Type 0) : Type 1 where
  pub game : ℕ
  pub Step : State → Call → List Message → State → Type 0
  pub given : Call → List Passed
  pub typed : Call → List Input
  pub receivers : Call → Receivers
  pub beat : Call → Beat
  pub ticking : State → Ticking
  pub prints : State → Call → State → List ℕ
  pub tells : State → Call → List Told

module _ {State Call : Type 0} where
  -- the station after these moments, the newest first
  abbrev pub last_of : State → List (Moment State Call) → State
  last_of k [] = k
  last_of k (m ∷ ms) = m.after

  -- each moment is a step from the one before
  abbrev pub Run : Kind State Call → State → List (Moment State Call) → Type 0
  Run kind k [] = Unit {0}
  Run kind k (m ∷ ms) =
      Run kind k ms × All IsMessage m.out × kind.Step (last_of k ms) m.call m.out m.after

  -- what passed in a call: what it was given, then what it sent, with the receivers
  abbrev pub passed_at : Kind State Call → Call → List Message → List Passed
  passed_at kind call out = kind.given call ++ sends (kind.receivers call) kind.game out

  -- what passed in these moments, the oldest first
  abbrev pub passed_in : Kind State Call → List (Moment State Call) → List Passed
  passed_in kind [] = []
  passed_in kind (m ∷ ms) = passed_in kind ms ++ passed_at kind m.call m.out

  -- what was typed
  abbrev pub typed_in : Kind State Call → List (Moment State Call) → List Input
  typed_in kind [] = []
  typed_in kind (m ∷ ms) = typed_in kind ms ++ kind.typed m.call

  -- what the clock showed
  abbrev pub read_in : Kind State Call → List (Moment State Call) → List ℕ
  read_in kind [] = []
  read_in kind (m ∷ ms) = read_in kind ms ++ reads (kind.beat m.call)

  -- the texts that were printed
  abbrev pub printed_in : Kind State Call → State → List (Moment State Call) → List ℕ
  printed_in kind k [] = []
  printed_in kind k (m ∷ ms) = printed_in kind k ms ++ kind.prints (last_of k ms) m.call m.after

  -- what was told as values
  abbrev pub told_in : Kind State Call → State → List (Moment State Call) → List Told
  told_in kind k [] = []
  told_in kind k (m ∷ ms) = told_in kind k ms ++ kind.tells (last_of k ms) m.call

  -- The logs have grown by these moments of a station: its datagrams are exactly those that passed, its lines those that were
  -- typed, its times those that were read, its texts those that were written, and its values those that were told.
  pub record LogsGrow (kind : Kind State Call) (k : State) (moments : List (Moment State Call)) (before after : Logs) : Type 0 where
    pub passed : after.passed ≡ before.passed ++ passed_in kind moments
    pub inputs : after.typed ≡ before.typed ++ typed_in kind moments
    pub readings : after.readings ≡ before.readings ++ read_in kind moments
    pub printed : Appends before.told after.told (printed_in kind k moments)
    pub tellings : after.tellings ≡ before.tellings ++ told_in kind k moments

  -- there is a run between two states of a station and of its logs
  pub record Goes (kind : Kind State Call) (k l : State) (before after : Logs) : Type 0 where
    pub moments : List (Moment State Call)
    pub run : Run kind k moments
    pub last : last_of k moments ≡ l
    pub logs : LogsGrow kind k moments before after
