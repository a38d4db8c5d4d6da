-- Worked calls of a desk and a board at the first place, on disks that show two lists of votes.
use Rattle.std.specs.Prelude.{◌≡◌, ◌⊎◌, ℕ, false, true, Option, Some, None, List, [], ◌∷◌}
use Rattle.notation.specs.declared.entry.Entry.{Entry}
use Rattle.agree_core.specs.declared.{messages.Asker.Asker, messages.DeskId.DeskId, messages.Message.Message, position.Position.Position, seat.Heard.Heard, seat.Settled.Settled}
use Rattle.agree_core.specs.declared.messages.DeskId.TheVariants.{A, B}
use Rattle.agree_core.specs.Ballots.{Ballot, ballot_at, vote_of}
use Rattle.agree_core.specs.Boards.{BoardAnswer, BoardReceives, BoardState, fresh_board}
use Rattle.agree_core.specs.Books.{Rules}
use Rattle.agree_core.specs.Desks.{DeskState, PenAnswer, PenRefusal, Pens, ReceiveAnswer, Receives, Ticks, ask_for}
use Rattle.agree_core.specs.FileView.{FileView, view_of}
use Rattle.agree_core.specs.Openings.{OpenRefusal, Opening, Opens}
use Rattle.agree_core.specs.Positions.{first, next_place, next_round}
use Rattle.agree_core.specs.Readers.{noting, reading}

-- a disk, by the votes that a read returns and the votes that a power loss may leave instead
pub record Shown : Type 0 where
  pub read : List Ballot
  pub left : List Ballot

abbrev pub shows : FileView Shown
shows = view_of (λ d. Some d.read) (λ d image. (image ≡ Some d.read) ⊎ (image ≡ Some d.left))

-- a disk on which these votes are all synced
abbrev pub synced : List Ballot → Shown
synced votes = record { read = votes; left = votes }

-- a vote in this round of the first place
abbrev pub says : DeskId → ℕ → Entry → Message
says d round e = Message.Vote (vote_of d (ballot_at 0 round e))

-- desk A, which hasn't failed, at this position, where it has heard nothing
abbrev pub desk_a : Position → Option Entry → List Entry → List Ballot → DeskState Shown
desk_a at mine book votes =
    record {
      seat = record { desk = A; position = at; mine = mine; theirs = None };
      book = book;
      failed = false;
      votes = votes;
      disk = synced votes;
    }

abbrev pub new_desk : DeskState Shown
new_desk = desk_a first None [] []

-- A's vote is cast and stored, and B's isn't there
abbrev pub waits : Entry → DeskState Shown
waits e = desk_a first (Some e) [] (ballot_at 0 0 e ∷ [])

-- A pens a four and hears a six: they differ. In the next round both vote for the six, and the book has it.
abbrev pub DiffersAndAgrees : {Why : Type 0} → Rules Why → Entry → Entry → Type 0
DiffersAndAgrees rules four six =
    let again = next_round first in
    let votes = ballot_at 0 1 six ∷ ballot_at 0 0 four ∷ [] in
    Pens shows rules new_desk four (PenAnswer.Penned Settled.Pending) (waits four) (says A 0 four ∷ [])
    × Receives shows (waits four) (says B 0 six) (ReceiveAnswer.Told Heard.Differ)
    (desk_a again None [] (ballot_at 0 0 four ∷ [])) []
    × Pens shows rules (desk_a again None [] (ballot_at 0 0 four ∷ [])) six (PenAnswer.Penned Settled.Pending)
    (desk_a again (Some six) [] votes) (says A 1 six ∷ [])
    × Receives shows (desk_a again (Some six) [] votes) (says B 1 six) (ReceiveAnswer.Told Heard.Agreed)
    (desk_a (next_place first) None (six ∷ []) votes) []

-- The power goes in the last device call of a pen: a read has the vote, and a power loss may leave the file without it.
-- Opened again, the desk has the vote, hands it out and waits.
abbrev pub StoppedAndOpened : {Why : Type 0} → Rules Why → Entry → Entry → Type 0
StoppedAndOpened rules e f =
    let disk : Shown = record { read = ballot_at 0 0 e ∷ []; left = [] } in
    Pens shows rules new_desk e PenAnswer.DeviceFailed (record new_desk { failed = true; disk = disk }) []
    × Opens shows rules A disk (Opening.Opened (waits e))
    × Ticks (waits e) (says A 0 e ∷ ask_for Asker.A first ∷ [])
    × Pens shows rules (waits e) f (PenAnswer.Refused PenRefusal.Waiting) (waits e) []
    × Receives shows (waits e) (says B 0 e) (ReceiveAnswer.Told Heard.Agreed)
    (desk_a (next_place first) None (e ∷ []) (ballot_at 0 0 e ∷ [])) []

-- The second device call of a pen fails, and a read shows nothing of the vote. The desk then pens nothing, looks at no
-- message and hands out nothing until it is opened again.
abbrev pub FailedAndOpened : {Why : Type 0} → Rules Why → Entry → Entry → Message → Type 0
FailedAndOpened rules e f m =
    let failed = record new_desk { failed = true } in
    Pens shows rules new_desk e PenAnswer.DeviceFailed failed []
    × Pens shows rules failed f (PenAnswer.Refused PenRefusal.Failed) failed []
    × Receives shows failed m ReceiveAnswer.Failed failed []
    × Ticks failed []
    × Opens shows rules A (synced []) (Opening.Opened new_desk)

-- Votes for an entry that may not come first: a board that has A's vote doesn't take B's, and a desk with such a file
-- isn't opened. The refused place is the first.
abbrev pub VotesOfNoBook : {Why : Type 0} → Rules Why → Entry → Type 0
VotesOfNoBook rules e =
    let noted : BoardState = record { reader = noting (reading first) A e; book = [] } in
    let votes = ballot_at 0 0 e ∷ [] in
    BoardReceives rules fresh_board (says A 0 e) (BoardAnswer.Told Heard.Noted) noted
    × BoardReceives rules noted (says B 0 e) (BoardAnswer.BadVotes 0) noted
    × Opens shows rules A (synced votes) (Opening.NotOpened (OpenRefusal.BadVotes 0) (synced votes))
