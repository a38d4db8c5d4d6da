-- What every call of a desk or a board preserves: seat, reader and book agree with the votes.
use Rattle.std.specs.Prelude.{◌≡◌, ◌≢◌, ◌⊎◌, false, Option, Some, None, List, [], ◌∷◌, length}
use Rattle.notation.specs.declared.entry.Entry.{Entry}
use Rattle.agree_core.specs.declared.{messages.DeskId.DeskId, messages.Message.Message, position.Position.Position}
use Rattle.agree_core.specs.Agreed.{AllBoth}
use Rattle.agree_core.specs.Ballots.{AllVotes, Ballot, Follows, In, Justified, Within, ballot_of, votes_by}
use Rattle.agree_core.specs.Boards.{BoardState}
use Rattle.agree_core.specs.Books.{book_of}
use Rattle.agree_core.specs.Desks.{DeskState}
use Rattle.agree_core.specs.FileView.{FileView, Holds}
use Rattle.agree_core.specs.Readers.{ReaderWaits, noted_of}
use Rattle.agree_core.specs.Seats.{SeatState, SeatWaits}

-- P holds for each element
abbrev pub Each : {X : Type 0} → (X → Type 0) → List X → Type 0
Each P [] = Unit {0}
Each P (x ∷ xs) = P x × Each P xs

-- these are the votes, or the votes and one more that may follow
abbrev pub OneMore : List Ballot → List Ballot → List Ballot → Type 0
OneMore theirs votes these =
    (these ≡ votes) ⊎ ((b : Ballot) × (these ≡ b ∷ votes) × Justified theirs (b ∷ votes))

abbrev pub ShowsMore : List Ballot → List Ballot → Option (List Ballot) → Type 0
ShowsMore theirs votes shown =
    (these : List Ballot) × (shown ≡ Some these) × OneMore theirs votes these

-- if a desk has voted at this position, that vote is its last; if not, any vote there may follow its last; its book is
-- what its file shows once it has that vote
abbrev pub MineFine : List Ballot → List Ballot → List Entry → Position → Option Entry → Type 0
MineFine theirs own book at None =
    (e : Entry) → Follows theirs (record { at = at; entry = e }) own
    × (book_of (record { at = at; entry = e } ∷ own) ≡ book)
MineFine theirs own book at (Some e) =
    (rest : List Ballot) × (own ≡ record { at = at; entry = e } ∷ rest) × (book_of own ≡ book)

-- a vote that is noted at this position is one of these
abbrev pub NotedFine : List Ballot → Position → Option Entry → Type 0
NotedFine votes at None = Unit {0}
NotedFine votes at (Some e) = In (record { at = at; entry = e }) votes

-- a desk's seat and book agree with both desks' votes
pub record SeatFine (d : DeskId) (own theirs : List Ballot) (seat : SeatState) (book : List Entry) : Type 0 where
  pub desk : seat.desk ≡ d
  pub justified : Justified theirs own
  pub both : AllBoth own theirs 0 book
  pub long : length book ≡ seat.position.place
  pub mine : MineFine theirs own book seat.position seat.mine
  pub noted : NotedFine theirs seat.position seat.theirs
  pub waits : SeatWaits seat

-- if a message is a vote, it is this desk's, and the desk has it
abbrev pub OwnMessage : DeskId → List Ballot → Message → Type 0
OwnMessage d own (Message.Vote v) = (v.desk ≡ d) × In (ballot_of v) own
OwnMessage d own (Message.Ask q) = Unit {0}

-- if a message is a vote of the other desk, that desk has it
abbrev pub TheirMessage : DeskId → List Ballot → Message → Type 0
TheirMessage d theirs (Message.Vote v) = v.desk ≢ d → In (ballot_of v) theirs
TheirMessage d theirs (Message.Ask q) = Unit {0}

module _ {Disk : Type 0} (view : FileView Disk) (d : DeskId) (theirs : List Ballot) where
  -- a read and every image show the votes, or the votes and one more that may follow
  abbrev pub DiskFine : List Ballot → Disk → Type 0
  DiskFine votes disk =
      ShowsMore theirs votes (view.reads disk)
      × ((shown : Option (List Ballot)) → view.Image disk shown → ShowsMore theirs votes shown)

  -- seat, book and disk agree with the votes, and until the desk has failed the file has exactly these votes
  pub record DeskFine (k : DeskState Disk) : Type 0 where
    pub seat : SeatFine d k.votes theirs k.seat k.book
    pub disk : DiskFine k.votes k.disk
    pub safe : k.failed ≡ false → Holds view k.disk k.votes

  -- the desk still agrees with its votes, keeps them all, and hands out no vote but its own
  pub record DeskKept (k l : DeskState Disk) (out : List Message) : Type 0 where
    pub fine : DeskFine l
    pub grows : Within k.votes l.votes
    pub told : Each (OwnMessage d l.votes) out

-- if a message is a vote, its desk has that vote
abbrev pub MessageFine : AllVotes → Message → Type 0
MessageFine v (Message.Vote w) = In (ballot_of w) (votes_by v w.desk)
MessageFine v (Message.Ask q) = Unit {0}

-- a board's reader and book agree with both desks' votes
pub record BoardFine (v : AllVotes) (k : BoardState) : Type 0 where
  pub both : AllBoth v.a v.b 0 k.book
  pub long : length k.book ≡ k.reader.position.place
  pub noted : (d : DeskId) → NotedFine (votes_by v d) k.reader.position (noted_of k.reader d)
  pub waits : ReaderWaits k.reader
