-- The desks and the board of a match between their turns.
use Rattle.std.specs.Prelude.{◌≡◌, ◌+◌, ◌<◌, ◌≤◌, ◌⊎◌, ℕ, false, Option, None, Some, List, [], ◌∷◌, ◌++◌, length, Result, Ok, Err}
use Rattle.notation.specs.declared.entry.Entry.{Entry}
use Rattle.notation.specs.Lines.{lines_of}
use Rattle.corrections.specs.declared.book_of.BookOf.{Ghosts as Books}
use Rattle.entry_log.specs.Disk.{Never}
use Rattle.entry_log.specs.declared.{disk.Disk.Ghosts as Disks, slots_of.SlotsOf.Ghosts as Files}
use Rattle.agree_core.specs.declared.messages.DeskId.{DeskId}
use Rattle.agree_core.specs.Boards.{BoardState}
use Rattle.agree_core.specs.Desks.{DeskState, most_votes}
use Rattle.agree_core.specs.FileView.{FileView, Holds}
use Rattle.agree_core.specs.Seats.{SeatState}
use Rattle.desk.specs.declared.{desk.Desk.Desk, refusal.Refusal.Refusal as PenRefusal, refusal.OpenRefusal.OpenRefusal}
use Rattle.vote_store.specs.declared.refusal.Refusal.{Refusal}
use Rattle.desk.specs.Desk.{SameOwner, book_of, desk_of, disk_of, game_of, state_of, view_of}
use Rattle.board.specs.declared.board.Board.{Board}
use Rattle.board.specs.Board as boards
use Rattle.books.specs.declared.rejected.Refusal.TheVariants.{PlacesFull, Book}
use Rattle.books.specs.declared.rejected.Rejected.{Rejected}
use Rattle.books.specs.declared.rejected.Rejected.TheVariants.{Refused}
use Rattle.books.specs.Taking.{taking}
use Rattle.links.specs.Passed.{Passed}
use Rattle.match_command.specs.declared.match_run.fault.MatchFault.{MatchFault}
use Rattle.match_command.specs.declared.match_run.fault.MatchFault.TheVariants.{Device, Write, Line, NotAgreed}
use Rattle.match_command.specs.inner.Online.{IsOnline}
use Rattle.match_command.specs.MatchRun.{HoldsEither, Stays, entries_of_first, votes_for}

-- a book with the entry of the desk's pending vote, if it has one
abbrev pub with_own : List Entry → Option Entry → List Entry
with_own book None = book
with_own book (Some e) = book ++ e ∷ []

-- A seat and a book match the votes for these entries, each cast in the first round of its place: the entries are those of the
-- book and of the own pending vote, or the other desk's vote differed from one of them.
pub record GoesWith (entries : List Entry) (seat : SeatState) (agreed : List Entry) : Type 0 where
  pub place : length agreed ≡ seat.position.place
  pub voted : ((seat.position.round ≡ 0) × (entries ≡ with_own agreed seat.mine))
      ⊎ ((seat.mine ≡ None) × (length agreed < length entries))

-- a running desk: its file holds the votes for these entries, and its seat and book match them
pub record IsInTurn {Disk : Type 0} (view : FileView Disk) (entries : List Entry) (k : DeskState Disk) : Type 0 where
  pub running : k.failed ≡ false
  pub votes : k.votes ≡ votes_for entries
  pub held : Holds view k.disk (votes_for entries)
  pub goes : GoesWith entries k.seat k.book

-- why the stations don't agree line n, which a table with this book would answer so
abbrev pub WhyNotAgreed : Result Entry Rejected → List Entry → ℕ → MatchFault → Type 0
WhyNotAgreed answer book n (Line number why) = (number ≡ n) × (answer ≡ Err why)
WhyNotAgreed answer book n (NotAgreed place) = place ≡ length book
WhyNotAgreed answer book n Device = Unit {0}
WhyNotAgreed answer book n _ = ⊥

-- a fault that ends a run after this many lines
abbrev pub EndsAfter : ℕ → MatchFault → Type 0
EndsAfter n (Line number why) = number ≡ n + 1
EndsAfter n (NotAgreed place) = place ≡ n
EndsAfter n fault = Unit {0}

-- the fault of a run whose desk refuses to pen the entry of a line, at this place
abbrev pub pen_fault : ℕ → ℕ → PenRefusal → MatchFault
pen_fault number place PenRefusal.PlacesFull = Line number (Refused PlacesFull)
pen_fault number place (PenRefusal.Book why) = Line number (Refused (Book why))
pen_fault number place PenRefusal.Device = Device
pen_fault number place PenRefusal.Failed = Device
pen_fault number place _ = NotAgreed place

-- The fault of a run that can't make a desk on an empty disk: no memory, or a failed disk. No other refusal comes.
abbrev pub creation_fault : OpenRefusal → MatchFault
creation_fault (OpenRefusal.Votes Refusal.NoMemory) = MatchFault.NoMemory
creation_fault why = Device

-- the state of a board, as the specs of its calls have it
abbrev pub board_at : {B : Type 0} {b : Books B} → Board B b → BoardState
board_at {b = b} k = boards.state_of b.content k

module _ {S B D : Type 0} {g : Files S D} {h : Disks D} {b : Books B} where
  abbrev pub book_at : Desk S B D g h b → List Entry
  book_at desk = b.content (book_of desk)

  abbrev pub innings_at : Desk S B D g h b → ℕ
  innings_at desk = b.innings_a_side (book_of desk)

  -- the desk runs, with the votes for these entries
  abbrev pub InTurn : List Entry → Desk S B D g h b → Type 0
  InTurn entries desk = IsInTurn (view_of desk) entries (state_of desk)

  -- the desk runs, and no fault is due at its disk, which has room for the longest file
  pub record IsCalm (desk : Desk S B D g h b) : Type 0 where
    pub running : (state_of desk).failed ≡ false
    pub never : (h.faults (disk_of desk)).due ≡ Never
    pub room : (n : ℕ) → n ≤ most_votes → g.room n ≤ h.cap (disk_of desk)

  -- the desk goes on with the same votes
  pub record KeepsTurn (old new : Desk S B D g h b) : Type 0 where
    pub turn : (entries : List Entry) → InTurn entries old → InTurn entries new
    pub calm : IsCalm old → IsCalm new

  -- nothing was written to the desk's disk
  pub record KeepsDisk (old new : Desk S B D g h b) : Type 0 where
    pub owner : SameOwner old new
    pub disk : Stays h.seen h.images (disk_of old) (disk_of new)

  -- the desk's book has exactly the entries that it has voted for
  abbrev pub IsLevel : Desk S B D g h b → Type 0
  IsLevel desk = InTurn (book_at desk) desk

  -- the desk takes this entry, and has voted for it
  pub record VotesFor (e : Entry) (old new : Desk S B D g h b) : Type 0 where
    pub taken : taking (innings_at old) (book_at old) e ≡ Ok e
    pub turn : InTurn (book_at old ++ e ∷ []) new
    pub calm : IsCalm old → IsCalm new

  -- the desk's disk holds exactly the votes for book; or for more
  abbrev pub DiskHolds : Desk S B D g h b → List Entry → Type 0
  DiskHolds desk book = Holds (view_of desk) (disk_of desk) (votes_for book)

  abbrev pub DiskHoldsEither : Desk S B D g h b → List Entry → List Entry → Type 0
  DiskHoldsEither desk book more = HoldsEither (view_of desk) (disk_of desk) book more

  -- what a desk's disk holds if it refuses to pen this entry
  abbrev pub PenLeaves : Entry → MatchFault → Desk S B D g h b → Desk S B D g h b → Type 0
  PenLeaves e (Line number why) old new = DiskHolds new (book_at old)
  PenLeaves e Device old new =
      (taking (innings_at old) (book_at old) e ≡ Ok e) × DiskHoldsEither new (book_at old) (book_at old ++ e ∷ [])
  PenLeaves e fault old new = ⊥

  -- what both disks hold if a line isn't agreed: book is the book before it, more the book with it
  abbrev pub LineLeaves : List Entry → List Entry → MatchFault → Desk S B D g h b → Desk S B D g h b → Type 0
  LineLeaves book more (Line number why) a b' = DiskHolds a book × DiskHolds b' book
  LineLeaves book more (NotAgreed place) a b' = DiskHolds a more × DiskHolds b' more
  LineLeaves book more Device a b' = DiskHoldsEither a book more × DiskHoldsEither b' book more
  LineLeaves book more fault a b' = ⊥

  -- what both disks hold if the lines of an input aren't agreed, in a match of this many innings a side
  abbrev pub LinesLeave : ℕ → List ℕ → MatchFault → Desk S B D g h b → Desk S B D g h b → Type 0
  LinesLeave innings input Write a b' =
      DiskHolds a (entries_of_first (length (lines_of input)) innings input)
      × DiskHolds b' (entries_of_first (length (lines_of input)) innings input)
  LinesLeave innings input fault a b' =
      (n : ℕ) × EndsAfter n fault
      × LineLeaves (entries_of_first n innings input) (entries_of_first (n + 1) innings input) fault a b'

  -- both desks run on calm disks
  pub record AreCalm (a b' : Desk S B D g h b) : Type 0 where
    pub calm_a : IsCalm a
    pub calm_b : IsCalm b'

  -- while both desks are in their turns, what passed between these two logs leaves the stations online
  abbrev pub KeepsOnline :
      Desk S B D g h b → Desk S B D g h b → Board B b → Board B b → List Passed → List Passed → Type 0
  KeepsOnline a b' k l before after =
      (start : List Passed) (entries : List Entry)
      → InTurn entries a → InTurn entries b' → game_of b' ≡ game_of a → boards.game_of k ≡ game_of a
      → IsOnline (game_of a) start entries before (board_at k) → IsOnline (game_of a) start entries after (board_at l)

  -- both desks have agreed the same entries of one match, and the board has no fewer
  pub record AreLevel (a b' : Desk S B D g h b) (k : Board B b) : Type 0 where
    pub is_a : desk_of a ≡ DeskId.A
    pub is_b : desk_of b' ≡ DeskId.B
    pub game : game_of b' ≡ game_of a
    pub innings : innings_at b' ≡ innings_at a
    pub level_a : IsLevel a
    pub level_b : IsLevel b'
    pub book : book_at b' ≡ book_at a
    pub board_game : boards.game_of k ≡ game_of a
    pub board_innings : b.innings_a_side (boards.book_of k) ≡ innings_at a
    pub long : length (book_at a) ≤ length (b.content (boards.book_of k))
