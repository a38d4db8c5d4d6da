-- The votes that a station has noted, told by the events of a run and their answers.
use Rattle.std.specs.Prelude.{◌≡◌, ◌≢◌, ◌⊎◌, ℕ, Option, Some, None, option_map, List, [], ◌∷◌, slice_get}
use Rattle.notation.specs.declared.entry.Entry.{Entry}
use Rattle.agree_core.specs.declared.{messages.DeskId.DeskId, messages.Message.Message, position.Position.Position}
use Rattle.agree_core.specs.Ballots.{Ballot, vote_of}
use Rattle.agree_core.specs.Boards.{BoardState}
use Rattle.headline.specs.declared.event.{Event.Event, Station.Station}
use Rattle.headline.specs.Setting.{Setting}
use Rattle.headline.specs.Configurations.{Process, Running, Down, Configuration, board_at, node, process_disk}
use Rattle.headline.specs.Answers.{Answer}
use Rattle.headline.specs.Runs.{Moment, last_of}

-- the position of a station, unless it is down
abbrev pub process_position : {Disk : Type 0} → Process Disk → Option Position
process_position (Running k) = Some k.seat.position
process_position (Down votes disk) = None

abbrev pub position_at : {Disk : Type 0} → Configuration Disk → Station → Option Position
position_at w (Station.Desk d) = process_position (node w d).process
position_at w (Station.Board n) = option_map (λ (k : BoardState). k.reader.position) (board_at w.boards n)

-- the event by which a station begins again
abbrev pub beginning_of : Station → Event
beginning_of (Station.Desk d) = Event.Open d
beginning_of (Station.Board n) = Event.Wipe n

-- The event brings a vote of desk c to station t: t isn't c and is given the vote, or t is c and its scorer pens the entry (a
-- desk's own vote given back to it counts for nothing).
abbrev pub Brings : {Disk : Type 0} → Configuration Disk → Event → Station → DeskId → Ballot → Type 0
Brings w event t c b =
    ((t ≢ Station.Desk c)
    × ((n : ℕ) × (event ≡ Event.Give n t) × (slice_get w.sent n ≡ Some (Message.Vote (vote_of c b)))))
    ⊎ ((t ≡ Station.Desk c) × (event ≡ Event.Pen c b.entry))

-- the vote was penned, or was given and answered: the call wasn't refused
abbrev pub IsVoteAnswer : {Why : Type 0} → Answer Why → Type 0
IsVoteAnswer (Answer.Penned settled) = Unit {0}
IsVoteAnswer (Answer.Told heard) = Unit {0}
IsVoteAnswer _ = ⊥

-- a desk's vote for the station's position before the event is brought to the station, in a call that isn't refused
abbrev pub IsBrought : {Disk Why : Type 0} → Configuration Disk → Moment Disk Why → Station → DeskId → Ballot → Type 0
IsBrought w m t c b = (position_at w t ≡ Some b.at) × Brings w m.event t c b × IsVoteAnswer m.answer

-- the desk is opened from its file, whose newest vote is this one
abbrev pub IsFound : {Disk Why : Type 0} → Setting Disk Why → Configuration Disk → Moment Disk Why → DeskId → Ballot → Type 0
IsFound s w m d b =
    (m.event ≡ Event.Open d) × ((entries : ℕ) × (m.answer ≡ Answer.Opened entries))
    × ((before : List Ballot) × ((s.view d (node w d).version).reads (process_disk (node w d).process) ≡ Some (b ∷ before)))

-- A station that isn't down has noted this vote of a desk for its position. A desk notes its own vote if it was answered as
-- penned, or found as the last one when the desk was opened. Any station notes another desk's first vote given to it there
-- since it began, in a call that wasn't refused. These are exactly the votes that its seat or reader has (`KeepsNoted`), told
-- by what happened and not by what it keeps.
abbrev pub HasNoted :
    {Disk Why : Type 0} → Setting Disk Why → Configuration Disk → List (Moment Disk Why) → Station → DeskId → Ballot → Type 0
-- at the start of a run no vote is noted
HasNoted s w [] t c b = ⊥
-- the vote is for the station's position after the last event
HasNoted s w (m ∷ ms) t c b =
    (position_at m.after t ≡ Some b.at)
    -- and it was brought in that event, when no vote of that desk was noted there
    × ((IsBrought (last_of w ms) m t c b
    × ((e : Entry) → HasNoted s w ms t c (record { at = b.at; entry = e }) → ⊥))
    -- or the station is that desk, which was opened in that event and found the vote
    ⊎ (((t ≡ Station.Desk c) × IsFound s (last_of w ms) m c b)
    -- or the vote was noted before that event, in which the station didn't begin again
    ⊎ ((m.event ≢ beginning_of t) × HasNoted s w ms t c b)))
