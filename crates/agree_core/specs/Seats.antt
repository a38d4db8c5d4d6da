-- A desk's part in the current round, and how a vote changes it.
use Rattle.std.specs.Prelude.{◌≡◌, ◌≢◌, ◌⊎◌, Option, Some, None}
use Rattle.notation.specs.declared.entry.Entry.{Entry}
use Rattle.agree_core.specs.declared.{messages.DeskId.DeskId, messages.Vote.Vote, position.Position.Position, seat.Settled.Settled, seat.Heard.Heard}
use Rattle.agree_core.specs.Positions.{Before, next_place, next_round, position_of}

-- a desk at a position, its own vote there and the other desk's
pub record SeatState : Type 0 where
  pub desk : DeskId
  pub position : Position
  pub mine : Option Entry
  pub theirs : Option Entry

-- a desk that has neither cast nor heard a vote at this position
abbrev pub waiting : DeskId → Position → SeatState
waiting d p = record { desk = d; position = p; mine = None; theirs = None }

-- a desk at the position of its own vote, which has heard no vote there
abbrev pub resumed : Vote → SeatState
resumed v = record { desk = v.desk; position = position_of v; mine = Some v.entry; theirs = None }

-- the desk's own vote is cast, and the other desk's isn't there
abbrev pub casting : SeatState → Entry → SeatState
casting s e = record { desk = s.desk; position = s.position; mine = Some e; theirs = None }

-- the other desk's vote is there, and the desk's own isn't cast
abbrev pub noting : SeatState → Entry → SeatState
noting s e = record { desk = s.desk; position = s.position; mine = None; theirs = Some e }

-- the seat casts this vote, answers, and becomes the second seat
abbrev pub Casts : SeatState → Entry → Settled → SeatState → Type 0
Casts s e Settled.Pending t = (s.theirs ≡ None) × (t ≡ casting s e)
Casts s e Settled.Agreed t =
    (s.theirs ≡ Some e) × (t ≡ waiting s.desk (next_place s.position))
Casts s e Settled.Differ t =
    ((f : Entry) × (s.theirs ≡ Some f) × (e ≢ f)) × (t ≡ waiting s.desk (next_round s.position))

-- a vote of the other desk for the seat's position
abbrev pub IsForNow : SeatState → Vote → Type 0
IsForNow s v = (v.desk ≢ s.desk) × (position_of v ≡ s.position)

-- the seat hears this vote, answers, and becomes the second seat
abbrev pub Hears : SeatState → Vote → Heard → SeatState → Type 0
Hears s v Heard.Mine t = (v.desk ≡ s.desk) × (t ≡ s)
Hears s v Heard.Old t = (v.desk ≢ s.desk) × Before (position_of v) s.position × (t ≡ s)
Hears s v Heard.Ahead t = (v.desk ≢ s.desk) × Before s.position (position_of v) × (t ≡ s)
Hears s v Heard.Again t = IsForNow s v × (s.theirs ≡ Some v.entry) × (t ≡ s)
Hears s v Heard.TwoVotes t =
    IsForNow s v × ((e : Entry) × (s.theirs ≡ Some e) × (v.entry ≢ e)) × (t ≡ s)
Hears s v Heard.Noted t =
    IsForNow s v × (s.theirs ≡ None) × (s.mine ≡ None) × (t ≡ noting s v.entry)
Hears s v Heard.Agreed t =
    IsForNow s v × (s.theirs ≡ None) × (s.mine ≡ Some v.entry)
    × (t ≡ waiting s.desk (next_place s.position))
Hears s v Heard.Differ t =
    IsForNow s v × (s.theirs ≡ None) × ((e : Entry) × (s.mine ≡ Some e) × (v.entry ≢ e))
    × (t ≡ waiting s.desk (next_round s.position))

-- the seat lacks a vote of its position
abbrev pub SeatWaits : SeatState → Type 0
SeatWaits s = (s.mine ≡ None) ⊎ (s.theirs ≡ None)
