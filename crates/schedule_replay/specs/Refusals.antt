-- Why a world doesn't take an event.
use Rattle.std.specs.Prelude.{◌≡◌, ◌⊎◌, ℕ, zero, suc, Bool, true, false, nat_le, nat_lt, ◌&&◌, Option, Some, None, List, [], ◌∷◌, length}
use Rattle.std.proofs.Math.Bool.{not}
use Rattle.std.specs.Option.{is_none}
use Rattle.agree_core.specs.declared.messages.DeskId.{DeskId}
use Rattle.agree_core.specs.FileView.{MaySync}
use Rattle.headline.specs.declared.event.{Event.Event, Station.Station}
use Rattle.schedule_replay.specs.declared.seen.WorldRefusal.{WorldRefusal}
use Rattle.schedule_replay.specs.declared.seen.WorldRefusal.TheVariants.{NoMessage, NoStation, WorldFull, Down, Up, NoMemory}
use Rattle.headline.specs.Configurations as configurations
use Rattle.headline.specs.Setting.{Setting}
use Rattle.headline.specs.Configurations.{Process, Configuration, board_at, node, process_disk, with_disk, with_node}
use Rattle.headline.specs.Events.{station_of}

abbrev pub is_down : {Disk : Type 0} → Process Disk → Bool
is_down (configurations.Running k) = false
is_down (configurations.Down votes disk) = true

abbrev pub is_desk : Station → Bool
is_desk (Station.Desk d) = true
is_desk (Station.Board n) = false

-- none of the boards, numbered from 1, has this number
abbrev pub no_board : ℕ → ℕ → Bool
no_board boards zero = true
no_board boards (suc n) = nat_le boards n

-- the station is a board that doesn't exist
abbrev pub no_station : {Disk : Type 0} → Configuration Disk → Station → Bool
no_station w (Station.Desk d) = false
no_station w (Station.Board n) = is_none (board_at w.boards n)

abbrev pub down_at : {Disk : Type 0} → Configuration Disk → Station → Bool
down_at w (Station.Desk d) = is_down (node w d).process
down_at w (Station.Board n) = false

-- the event needs a running desk
abbrev pub asks_up : Event → Bool
asks_up (Event.Pen d e) = true
asks_up (Event.Tick t) = true
asks_up (Event.Give n t) = true
asks_up (Event.Kill d) = true
asks_up _ = false

-- the event needs a desk that is down
abbrev pub asks_down : Event → Bool
asks_down (Event.Open d) = true
asks_down (Event.Migrate d) = true
asks_down _ = false

-- no message of this number was handed out, if this many were
abbrev pub no_message : ℕ → Event → Bool
no_message sent (Event.Give n t) = nat_le sent n
no_message sent _ = false

-- the largest number of sent messages that leaves room for those of one event
abbrev pub most_sent : ℕ
most_sent = 65534

-- the event may hand out messages
abbrev pub may_send : Event → Bool
may_send (Event.Pen d e) = true
may_send (Event.Tick t) = true
may_send (Event.Give n t) = true
may_send _ = false

-- the event may take memory: for messages, for an opened desk, for a new file or for an empty board
abbrev pub may_grow : Event → Bool
may_grow (Event.Pen d e) = true
may_grow (Event.Tick t) = true
may_grow (Event.Give n t) = true
may_grow (Event.Open d) = true
may_grow (Event.Wipe n) = true
may_grow (Event.Migrate d) = true
may_grow _ = false

abbrev pub first_row : List (WorldRefusal × Bool) → Option WorldRefusal
first_row [] = None
first_row ((why, true) ∷ rows) = Some why
first_row ((why, false) ∷ rows) = first_row rows

-- the first cause against an event, by whether its station is missing or down, and by how many messages were sent
abbrev pub first_cause : Bool → Bool → ℕ → Event → Option WorldRefusal
first_cause missing down sent event =
    first_row ((NoStation, missing) ∷ (Down, asks_up event && down) ∷ (Up, asks_down event && not down)
    ∷ (NoMessage, no_message sent event) ∷ (WorldFull, may_send event && nat_lt most_sent sent) ∷ [])

-- the first cause against an event, apart from running out of memory
abbrev pub refusal_of : {Disk : Type 0} → Configuration Disk → Event → Option WorldRefusal
refusal_of w event =
    first_cause (no_station w (station_of event)) (down_at w (station_of event)) (length w.sent) event

-- this desk's disk may be synced, and all else stays
abbrev pub MaySyncAt : {Disk Why : Type 0} → Setting Disk Why → Configuration Disk → DeskId → Configuration Disk → Type 0
MaySyncAt s w d v =
    (disk : _) × MaySync (s.view d (node w d).version) (process_disk (node w d).process) disk
    × (v ≡ with_node w d (record (node w d) { process = with_disk (node w d).process disk }) [])

-- The configuration after memory ran out: as before, except that the disk of a desk that was to be opened, or whose file was to
-- be migrated, may be synced.
abbrev pub LeftByWant :
    {Disk Why : Type 0} → Setting Disk Why → Configuration Disk → Event → Configuration Disk → Type 0
LeftByWant s w (Event.Open d) v = MaySyncAt s w d v
LeftByWant s w (Event.Migrate d) v = MaySyncAt s w d v
LeftByWant s w _ v = v ≡ w

-- The world refuses the event: if a cause bars the event, the world stays as it was; otherwise memory ran out, for an event
-- that may take memory.
abbrev pub RefusesEvent :
    {Disk Why : Type 0} → Setting Disk Why → Configuration Disk → Event → WorldRefusal → Configuration Disk → Type 0
RefusesEvent s w event why v =
    ((refusal_of w event ≡ Some why) × (v ≡ w))
    ⊎ ((refusal_of w event ≡ None) × (why ≡ NoMemory) × (may_grow event ≡ true)
    × LeftByWant s w event v)
