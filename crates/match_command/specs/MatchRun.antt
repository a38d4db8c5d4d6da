-- What `match` does, over any disks and any link, whatever the link loses, changes or makes up.
use Rattle.std.specs.Prelude.{◌≡◌, ◌+◌, ◌<◌, ◌≤◌, ◌⊎◌, ℕ, List, [], ◌∷◌, ◌++◌, Contains, length, take, Option, Some, Result, Ok, Err}
use Rattle.notation.specs.declared.entry.Entry.{Entry}
use Rattle.notation.specs.Lines.{lines_of}
use Rattle.corrections.specs.CleanList.{history_of}
use Rattle.agree_core.specs.declared.messages.DeskId.{DeskId}
use Rattle.agree_core.specs.declared.messages.DeskId.TheVariants.{A, B}
use Rattle.agree_core.specs.Ballots.{Ballot, ballot_at}
use Rattle.agree_core.specs.Books.{voted_list}
use Rattle.agree_core.specs.FileView.{FileView, Holds}
use Rattle.entry_log.specs.Disk.{Faults, Images, Never}
use Rattle.entry_log.specs.Format.{contents, room}
use Rattle.entry_log.specs.Slots.{StaysOrBegins}
use Rattle.entry_log.specs.Version2.{version_2}
use Rattle.entry_log.specs.declared.slot.TheConstants.{MAX_SLOTS}
use Rattle.vote_store.specs.Refusal.{not_empty}
use Rattle.vote_store.specs.View.{file_view}
use Rattle.cards.specs.Board.{board}
use Rattle.cards.specs.Sheet.{Sheet}
use Rattle.streams.specs.Watched.{Prints}
use Rattle.streams.specs.declared.watched.Watched.{Watched}
use Rattle.books.specs.declared.fault.BookFault.{BookFault}
use Rattle.books.specs.CardBook.{IsBookOfLines, NamesFirstRejected}
use Rattle.books.specs.Taking.{book_after}
use Rattle.links.specs.Passed.{Passed, Sent, Came}
use Rattle.links.specs.declared.link.Receivers.{Receivers}
use Rattle.setup.specs.declared.fault.StopFault.{StopFault}
use Rattle.match_command.specs.declared.match_run.fault.MatchFault.{MatchFault}
use Rattle.match_command.specs.declared.match_run.fault.MatchFault.TheVariants.{NoMemory, Write, Device, NotEmpty, Line, NotAgreed}

-- these votes, and then one for each entry in the first round of its place, the newest first
abbrev pub with_votes_for : List Entry → List Ballot → List Ballot
with_votes_for [] votes = votes
with_votes_for (e ∷ es) votes = with_votes_for es (ballot_at (length votes) 0 e ∷ votes)

abbrev pub votes_for : List Entry → List Ballot
votes_for book = with_votes_for book []

-- What is read of a disk, and each image of it, is a sound file with exactly the votes for these entries, and the last votes of
-- its places are for these entries.
pub record HoldsBook {Disk : Type 0} (view : FileView Disk) (disk : Disk) (book : List Entry) : Type 0 where
  pub held : Holds view disk (votes_for book)
  pub last : voted_list (votes_for book) ≡ book

-- what is read of a disk, and each image of it, is a sound file with exactly the votes for book, or exactly those for more
pub record HoldsEither {Disk : Type 0} (view : FileView Disk) (disk : Disk) (book more : List Entry) : Type 0 where
  pub read : (view.reads disk ≡ Some (votes_for book)) ⊎ (view.reads disk ≡ Some (votes_for more))
  pub images : (image : Option (List Ballot)) → view.Image disk image
      → (image ≡ Some (votes_for book)) ⊎ (image ≡ Some (votes_for more))

-- no fault is due at this disk, and it has room for the longest file of version 2
abbrev pub IsQuiet : {D : Type 0} → (D → Faults) → (D → ℕ) → D → Type 0
IsQuiet faults cap disk = ((faults disk).due ≡ Never) × (room version_2 MAX_SLOTS ≤ cap disk)

-- each datagram that came was sent before, to all or to one
abbrev pub GivesOnlySent : List Passed → Type 0
GivesOnlySent passed =
    (before after : List Passed) (bytes : List ℕ)
    → passed ≡ before ++ Came bytes ∷ after → (to : Receivers) × Contains before (Sent to bytes)

-- the entries of the first n lines of an input
abbrev pub entries_of_first : ℕ → ℕ → List ℕ → List Entry
entries_of_first n innings input = book_after innings [] (take n (lines_of input))

-- a read of this disk gives what it gave before, and a power loss leaves one of the same images
abbrev pub Stays : {D : Type 0} → (D → List ℕ) → (D → Images) → D → D → Type 0
Stays seen images old new = (seen new ≡ seen old) × (images new ≡ images old)

module _ {D : Type 0} (seen : D → List ℕ) (images : D → Images) (s : Sheet) where
  -- a desk's disk as a file of version 2 of the sheet's match
  abbrev pub desk_view : DeskId → FileView D
  desk_view desk = file_view (contents version_2) seen images desk s.game

  -- the desk's disk holds this book
  abbrev pub KeepsBook : DeskId → D → List Entry → Type 0
  KeepsBook desk disk book = HoldsBook (desk_view desk) disk book

module _
    {D : Type 0} (seen : D → List ℕ) (images : D → Images) (s : Sheet) (input : List ℕ)
  where
    -- both disks hold the entries of the first n lines
    abbrev pub KeepFirst : ℕ → D → D → Type 0
    KeepFirst n a b =
        KeepsBook seen images s A a (entries_of_first n s.innings input)
        × KeepsBook seen images s B b (entries_of_first n s.innings input)

    -- a disk holds the entries of the first n lines, or of one line more
    abbrev pub KeepsOneMore : ℕ → DeskId → D → Type 0
    KeepsOneMore n desk disk =
        HoldsEither (desk_view seen images s desk) disk
        (entries_of_first n s.innings input) (entries_of_first (n + 1) s.innings input)

    -- disk A was begun, holds a new file or stays as it was, and disk B was begun or stays as it was
    abbrev pub MayBegin : D → D → D → D → Type 0
    MayBegin a b new_a new_b =
        (StaysOrBegins seen images (room version_2 0) a new_a ⊎ KeepsBook seen images s A new_a [])
        × StaysOrBegins seen images (room version_2 0) b new_b

    -- What both disks hold after a fault: the entries of the lines before the first refused line; those up to the place that
    -- isn't agreed; or those of all lines. A disk that failed may hold one vote more, or may have no whole file yet.
    abbrev pub Leaves : MatchFault → D → D → D → D → Type 0
    Leaves (Line number why) a b new_a new_b = (n : ℕ) × (number ≡ n + 1) × KeepFirst n new_a new_b
    Leaves (NotAgreed place) a b new_a new_b = KeepFirst (place + 1) new_a new_b
    Leaves Write a b new_a new_b = KeepFirst (length (lines_of input)) new_a new_b
    Leaves Device a b new_a new_b =
        MayBegin a b new_a new_b ⊎ ((n : ℕ) × KeepsOneMore n A new_a × KeepsOneMore n B new_b)
    Leaves NoMemory a b new_a new_b =
        (Stays seen images a new_a ⊎ KeepsBook seen images s A new_a []) × Stays seen images b new_b
    Leaves NotEmpty a b new_a new_b = Stays seen images a new_a × Stays seen images b new_b

module _
    {S D : Type 0} (bytes : S → Option (List ℕ)) (old new : Watched S) (seen : D → List ℕ) (images : D → Images)
    (s : Sheet) (input : List ℕ) (before after : List Passed)
  where
    -- Each line is taken, both disks hold exactly the book of the lines, and the six lines are written of a board whose book
    -- has no fewer entries. If each datagram that came was sent in this run, the board has that book too.
    pub record AgreesLines (a b : D) : Type 0 where
      pub book : List Entry
      pub taken : IsBookOfLines s.innings input book
      pub at_a : KeepsBook seen images s A a book
      pub at_b : KeepsBook seen images s B b book
      pub shown : List Entry
      pub long : length book ≤ length shown
      pub written : Prints bytes old new (board s s.innings (history_of shown))
      pub passed : List Passed
      pub since : after ≡ before ++ passed
      pub same : GivesOnlySent passed → shown ≡ book

module _ {D : Type 0} where
  -- the disks of A and of B, which both answers hand back
  abbrev pub left_at_a : Result (D × D) (MatchFault × D × D) → D
  left_at_a (Ok disks) = disks.0
  left_at_a (Err ended) = ended.1

  abbrev pub left_at_b : Result (D × D) (MatchFault × D × D) → D
  left_at_b (Ok disks) = disks.1
  left_at_b (Err ended) = ended.2

-- the first line that is refused; that a disk has a file; or the place, counted from 0, of the line that isn't agreed
abbrev pub WhyNoMatch : ℕ → List ℕ → List ℕ → List ℕ → MatchFault → Type 0
WhyNoMatch innings input a b (Line number why) = NamesFirstRejected innings input (BookFault.Line number why)
WhyNoMatch innings input a b NotEmpty = (0 < length a) ⊎ (0 < length b)
WhyNoMatch innings input a b (NotAgreed place) = place < length (lines_of input)
WhyNoMatch innings input a b NoMemory = Unit {0}
WhyNoMatch innings input a b Device = Unit {0}
WhyNoMatch innings input a b Write = Unit {0}

-- the fault that decides what standard error is told, and the exit status
abbrev pub stop_of : MatchFault → StopFault
stop_of NoMemory = StopFault.NoMemory
stop_of Write = StopFault.Write
stop_of Device = StopFault.Write
stop_of NotEmpty = StopFault.Votes not_empty
stop_of (Line number why) = StopFault.Line number why
stop_of (NotAgreed place) = StopFault.NotAgreed place
