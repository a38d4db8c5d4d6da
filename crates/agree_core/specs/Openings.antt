-- How a desk begins: on a new file, or on the file that it left.
use Rattle.std.specs.Prelude.{◌≡◌, ℕ, false, Some, None, List, []}
use Rattle.agree_core.specs.declared.messages.DeskId.{DeskId}
use Rattle.agree_core.specs.Ballots.{Ballot}
use Rattle.agree_core.specs.Books.{Rules, AllTaken, FirstRefused, book_of, seat_of, voted_list}
use Rattle.agree_core.specs.Desks.{DeskState}
use Rattle.agree_core.specs.FileView.{FileView, Holds, MaySync, Synced}

-- the desk whose file has these votes: at the position of the last vote, with that vote cast
abbrev pub opened : {Disk : Type 0} → DeskId → Disk → List Ballot → DeskState Disk
opened d disk votes =
    record { seat = seat_of d votes; book = book_of votes; failed = false; votes = votes; disk = disk }

-- a desk that was just created, on a file without votes
abbrev pub Creates : {Disk : Type 0} → FileView Disk → DeskId → DeskState Disk → Type 0
Creates view d k = (k ≡ opened d k.disk []) × Holds view k.disk []

-- why a desk can't be opened
pub data OpenRefusal : Type 0 where
  Unsound : OpenRefusal
  BadVotes : ℕ → OpenRefusal
  NoMemory : OpenRefusal
  DeviceFailed : OpenRefusal

-- the outcome of opening a file: a desk, or a refusal and the disk that it leaves
pub data Opening (Disk : Type 0) : Type 0 where
  Opened : DeskState Disk → Opening Disk
  NotOpened : OpenRefusal → Disk → Opening Disk

-- a file is synced and opened: the desk has the votes that are read, and the book's rules must take the list of each
-- place's last vote
abbrev pub Opens : {Disk Why : Type 0} → FileView Disk → Rules Why → DeskId → Disk → Opening Disk → Type 0
Opens view rules d disk (Opened k) =
    (view.reads disk ≡ Some k.votes) × AllTaken rules [] (voted_list k.votes)
    × Holds view k.disk k.votes × (k ≡ opened d k.disk k.votes)
Opens view rules d disk (NotOpened Unsound left) =
    (view.reads disk ≡ None) × Synced view disk left
Opens view rules d disk (NotOpened (BadVotes place) left) =
    (votes : List Ballot) × (view.reads disk ≡ Some votes)
    × FirstRefused rules [] (voted_list votes) place × Holds view left votes
Opens view rules d disk (NotOpened NoMemory left) = MaySync view disk left
Opens view rules d disk (NotOpened DeviceFailed left) = MaySync view disk left
