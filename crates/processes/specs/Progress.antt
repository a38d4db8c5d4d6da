-- What goes on with processes: what happens to them is a run, tick by tick and message by message, so what goes on in every run
-- goes on with them.
use Rattle.std.specs.Prelude.{◌≡◌, ℕ, List, [], ◌∷◌, ◌++◌, Some, Ok, slice_get}
use Rattle.notation.specs.declared.entry.Entry.{Entry}
use Rattle.corrections.specs.declared.refusal.Refusal.{Refusal}
use Rattle.entry_log.specs.Disk.{Images}
use Rattle.entry_log.specs.Slots.{FileContents}
use Rattle.agree_core.specs.declared.{messages.DeskId.DeskId, messages.Message.Message, position.Position.Position}
use Rattle.agree_core.specs.Boards.{BoardState}
use Rattle.agree_core.specs.Readers.{other}
use Rattle.wire.specs.declared.what.What.{What}
use Rattle.wire.specs.Layout.{Says}
use Rattle.headline.specs.declared.{event.Event.Event, event.Station.Station, version.FileVersion.FileVersion}
use Rattle.headline.specs.Configurations.{Configuration, all_votes, board_at}
use Rattle.headline.specs.Given.{IsGiven}
use Rattle.headline.specs.Match.{setting_of}
use Rattle.headline.specs.Runs.{Moment, Run, last_of}
use Rattle.headline.specs.Setting.{Setting}
use Rattle.progress.specs.CalmMoments.{AllCalm, BothUp}
use Rattle.progress.specs.Exchange.{Exchange, HasExchanges}
use Rattle.progress.specs.InStep.{InStep, IsBehindBy}
use Rattle.progress.specs.Progress.{HoldsAt}
use Rattle.live.specs.Boards as boards
use Rattle.live.specs.Boards.{BoardCall}
use Rattle.live.specs.Desks as desks
use Rattle.live.specs.Desks.{DeskCall}
use Rattle.processes.specs.Happenings.{BoardCalled, DeskCalled, Happening, after}
use Rattle.processes.specs.Exchanges.{HaveExchanged, ProcessExchange}
use Rattle.processes.specs.Laws.{IsFlow}

-- the message is given by this number, which is one under which it was sent, if it was sent
abbrev pub IsGivenAsSent : List Message → ℕ → Message → Type 0
IsGivenAsSent sent n m = IsGiven sent n m × ((i : ℕ) → slice_get sent i ≡ Some m → slice_get sent n ≡ Some m)

-- no scorer types, no disk fails, and no process begins or ends
abbrev pub IsQuietCall : DeskCall → Type 0
IsQuietCall (desks.Typed line said) = ⊥
IsQuietCall (desks.Given bytes What.Device) = ⊥
IsQuietCall call = Unit {0}

module _ {Disk : Type 0} where
  -- the list is one moment, with this property
  abbrev pub IsOne : (Moment Disk Refusal → Type 0) → List (Moment Disk Refusal) → Type 0
  IsOne P (m ∷ []) = P m
  IsOne P ms = ⊥

  -- in the moment the station ticks
  abbrev pub TicksAt : Station → Moment Disk Refusal → Type 0
  TicksAt t m = m.event ≡ Event.Tick t

  -- in the moment the station is given the message that the bytes say, by a number under which it was sent, or, if it wasn't
  -- sent, by one that gives an ask
  abbrev pub GivesAt : ℕ → Configuration Disk → Station → List ℕ → Moment Disk Refusal → Type 0
  GivesAt game v t bytes m =
      (n : ℕ) × (message : Message) × (m.event ≡ Event.Give n t) × Says game bytes message × IsGivenAsSent v.sent n message

  -- What a call of a desk is in a run: a tick is a tick; a message that the desk hears or answers is that message given to it;
  -- and a call that leaves the desk as it is, is no moment.
  abbrev pub PlaysDesk : ℕ → Configuration Disk → DeskId → DeskCall → List (Moment Disk Refusal) → Type 0
  PlaysDesk game v d desks.Ticked ms = IsOne (TicksAt (Station.Desk d)) ms
  PlaysDesk game v d (desks.Given bytes (What.Heard heard)) ms = IsOne (GivesAt game v (Station.Desk d) bytes) ms
  PlaysDesk game v d (desks.Given bytes What.Asked) ms = IsOne (GivesAt game v (Station.Desk d) bytes) ms
  PlaysDesk game v d call ms = ms ≡ []

  -- what a call of a board is in a run, likewise
  abbrev pub PlaysBoard : ℕ → Configuration Disk → ℕ → BoardCall → List (Moment Disk Refusal) → Type 0
  PlaysBoard game v n boards.Ticked ms = IsOne (TicksAt (Station.Board n)) ms
  PlaysBoard game v n (boards.Given bytes (Ok (What.Bad fault))) ms = ms ≡ []
  PlaysBoard game v n (boards.Given bytes answer) ms = IsOne (GivesAt game v (Station.Board n) bytes) ms
  PlaysBoard game v n call ms = ms ≡ []

  abbrev pub Plays : ℕ → Configuration Disk → Happening Disk → List (Moment Disk Refusal) → Type 0
  Plays game v (DeskCalled d s call out l text) ms = PlaysDesk game v d call ms
  Plays game v (BoardCalled n s call out l text seen) ms = PlaysBoard game v n call ms
  Plays game v what ms = ⊥

  -- the moments play all happenings from that configuration on, one after the other, and come to the same configurations
  abbrev pub ArePlayed : ℕ → Configuration Disk → List (Happening Disk) → List (Moment Disk Refusal) → Type 0
  ArePlayed game v [] ms = ms ≡ []
  ArePlayed game v (h ∷ hs) ms =
      (more : List (Moment Disk Refusal)) × (rest : List (Moment Disk Refusal)) × (ms ≡ more ++ rest)
      × ArePlayed game v hs rest × Plays game (after v hs) h more × (last_of v ms ≡ after v (h ∷ hs))

  abbrev pub IsQuiet : Happening Disk → Type 0
  IsQuiet (DeskCalled d s call out l text) = IsQuietCall call
  IsQuiet (BoardCalled n s call out l text seen) = Unit {0}
  IsQuiet what = ⊥

  abbrev pub AllQuiet : List (Happening Disk) → Type 0
  AllQuiet [] = Unit {0}
  AllQuiet (h ∷ hs) = AllQuiet hs × IsQuiet h

-- What goes on with processes after some time, with `v` as the stations' configuration then, while no scorer types, no disk
-- fails, and no process begins or ends. It is a calm run, in which stations tick when their processes tick, and are given what
-- the processes are given. So if processes have an exchange, the stations have one in this run. What holds in every run holds
-- at `v`. So if both desks were up then, and each has had an exchange with the other, both are in step; and a board that has
-- had as many exchanges with both as it was behind has their book.
pub record GoOn
    {Disk : Type 0} (s : Setting Disk Refusal) (game : ℕ) (v : Configuration Disk) (hs : List (Happening Disk)) : Type 0 where
  pub moments : List (Moment Disk Refusal)
  pub run : Run s v moments
  pub ends : last_of v moments ≡ after v hs
  pub calm : AllCalm moments
  pub played : ArePlayed game v hs moments
  pub exchanges : (t : Station) (d : DeskId) → ProcessExchange game t d hs → Exchange v t d moments
  pub board_exchanges : (n m : ℕ) → HaveExchanged game n m hs → HasExchanges v n m moments
  pub holds : HoldsAt s v
  pub settle : BothUp v → ((d : DeskId) → Exchange v (Station.Desk d) (other d) moments)
      → (p : Position) × (book : List Entry) × InStep (after v hs) p book
  pub boards : BothUp v → (n : ℕ) (k : BoardState) → board_at v.boards n ≡ Some k
      → (m : ℕ) × IsBehindBy (all_votes v) k.reader.position m
      × (HasExchanges v n m moments → (l : BoardState) × (board_at (after v hs).boards n ≡ Some l)
      × ((p : Position) (book : List Entry) → InStep (after v hs) p book → l.book ≡ book))

-- this holds after whatever happened to the processes of a match
abbrev pub ProcessesGoOn : {Disk : Type 0} → (Disk → List ℕ) → (Disk → Images) → Type 0
ProcessesGoOn {Disk} seen images =
    (contents : FileVersion → FileContents) (game innings : ℕ) (version : FileVersion) (boards : ℕ) (w : Configuration Disk)
    (earlier later : List (Happening Disk)) → IsFlow seen images contents game innings version boards w (later ++ earlier)
    → AllQuiet later → GoOn (setting_of contents seen images game innings) game (after w earlier) later
