-- A board's view of the current round, and how a vote changes it.
use Rattle.std.specs.Prelude.{◌≡◌, ◌≢◌, ◌⊎◌, Option, Some, None}
use Rattle.notation.specs.declared.entry.Entry.{Entry}
use Rattle.agree_core.specs.declared.{messages.DeskId.DeskId, messages.Vote.Vote, position.Position.Position, seat.Heard.Heard}
use Rattle.agree_core.specs.declared.messages.DeskId.TheVariants.{A, B}
use Rattle.agree_core.specs.Positions.{Before, next_place, next_round, position_of}

-- a board at a position, and each desk's vote there
pub record ReaderState : Type 0 where
  pub position : Position
  pub a : Option Entry
  pub b : Option Entry

-- a board that has heard no vote at this position
abbrev pub reading : Position → ReaderState
reading p = record { position = p; a = None; b = None }

-- this desk's vote at the position, if it is noted
abbrev pub noted_of : ReaderState → DeskId → Option Entry
noted_of r A = r.a
noted_of r B = r.b

abbrev pub other : DeskId → DeskId
other A = B
other B = A

-- the reader with this desk's vote noted
abbrev pub noting : ReaderState → DeskId → Entry → ReaderState
noting r A e = record { position = r.position; a = Some e; b = r.b }
noting r B e = record { position = r.position; a = r.a; b = Some e }

-- the board hears this vote, answers, and becomes the second reader
abbrev pub Listens : ReaderState → Vote → Heard → ReaderState → Type 0
Listens r v Heard.Mine t = ⊥
Listens r v Heard.Old t = Before (position_of v) r.position × (t ≡ r)
Listens r v Heard.Ahead t = Before r.position (position_of v) × (t ≡ r)
Listens r v Heard.Again t =
    (position_of v ≡ r.position) × (noted_of r v.desk ≡ Some v.entry) × (t ≡ r)
Listens r v Heard.TwoVotes t =
    (position_of v ≡ r.position)
    × ((e : Entry) × (noted_of r v.desk ≡ Some e) × (v.entry ≢ e)) × (t ≡ r)
Listens r v Heard.Noted t =
    (position_of v ≡ r.position) × (noted_of r v.desk ≡ None)
    × (noted_of r (other v.desk) ≡ None) × (t ≡ noting r v.desk v.entry)
Listens r v Heard.Agreed t =
    (position_of v ≡ r.position) × (noted_of r v.desk ≡ None)
    × (noted_of r (other v.desk) ≡ Some v.entry) × (t ≡ reading (next_place r.position))
Listens r v Heard.Differ t =
    (position_of v ≡ r.position) × (noted_of r v.desk ≡ None)
    × ((e : Entry) × (noted_of r (other v.desk) ≡ Some e) × (v.entry ≢ e))
    × (t ≡ reading (next_round r.position))

-- the reader lacks a vote of its position
abbrev pub ReaderWaits : ReaderState → Type 0
ReaderWaits r = (r.a ≡ None) ⊎ (r.b ≡ None)
