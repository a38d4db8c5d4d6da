-- A worked life. Desk A pens `void`, is killed, begins in vain, and begins; desk B is given its vote, tells its scorer later
-- that the other has written, and pens `void` too. A board shows its empty book, looks at its clock, asks, is given the vote
-- with which each desk answers, and shows the book. A disk is its bytes, all synced: one for the header, and one for the desk's
-- vote. The texts were written by hand.
use Rattle.std.specs.Prelude.{ℕ, List, [], ◌∷◌, ◌++◌, None, Ok, Err, codes, false}
use Rattle.notation.specs.declared.entry.Entry.TheVariants.{Write}
use Rattle.notation.specs.declared.entry.Plain.TheVariants.{Void}
use Rattle.entry_log.specs.Disk.{Faults, Never, only}
use Rattle.entry_log.specs.Slots.{FileContents}
use Rattle.entry_log.specs.declared.refusal.Refusal.TheVariants.{Unfinished}
use Rattle.agree_core.specs.declared.{messages.Asker.Asker, messages.DeskId.DeskId, messages.Message.Message, seat.Settled.Settled}
use Rattle.agree_core.specs.declared.messages.DeskId.TheVariants.{A, B}
use Rattle.agree_core.specs.declared.seat.Heard as hearing
use Rattle.agree_core.specs.Ballots.{Ballot, ballot_at, vote_of}
use Rattle.agree_core.specs.Boards.{BoardState, fresh_board}
use Rattle.agree_core.specs.Desks.{DeskState, ask_for}
use Rattle.agree_core.specs.Openings.{NotOpened, Opened, OpenRefusal, opened}
use Rattle.agree_core.specs.Positions.{first, next_place}
use Rattle.agree_core.specs.Readers as readers
use Rattle.agree_core.specs.Readers.{reading}
use Rattle.agree_core.specs.Seats.{casting, noting, waiting}
use Rattle.cards.specs.Sheet.{Sheet}
use Rattle.wire.specs.Layout.{written}
use Rattle.wire.specs.declared.what.What.{What}
use Rattle.wire.specs.declared.what.What.TheVariants.{Heard}
use Rattle.vote_store.specs.Record.{record_of}
use Rattle.seal.specs.Rings.{Seals}
use Rattle.headline.specs.declared.version.FileVersion.{FileVersion}
use Rattle.headline.specs.declared.version.FileVersion.TheVariants.{New}
use Rattle.live.specs.Boards as boards
use Rattle.live.specs.Desks as desks
use Rattle.live.specs.Sights.{sight_of}
use Rattle.station_texts.specs.declared.reminder.Reminder.TheVariants.{HasWritten}
use Rattle.station_texts.specs.declared.said.Said.TheVariants.{Penned}
use Rattle.processes.specs.Happenings.{BoardBegun, BoardCalled, BoardGreeted, DeskBegun, DeskCalled, DeskEnded, DeskGreeted, Happening}
use Rattle.processes.specs.Exchanges.{HaveExchanged}
use Rattle.processes.specs.Files.{NoneShowNone}
use Rattle.processes.specs.Progress.{AllQuiet}
use Rattle.processes.specs.Weaving.{BothBegin, IsWoven, start}

-- the bytes of a disk: the header, and behind it the desk's vote, or none
abbrev pub the_vote : Ballot
the_vote = ballot_at 0 0 (Write Void)

abbrev pub toy : FileVersion → FileContents
toy version desk game [] = Err Unfinished
toy version desk game (header ∷ []) = Ok []
toy version desk game (header ∷ vote ∷ more) = Ok (record_of the_vote ∷ [])

abbrev pub no_faults : List ℕ → Faults
no_faults disk = record { count = 0; due = Never }

abbrev pub disk_without : List ℕ
disk_without = 1 ∷ []

abbrev pub disk_with : List ℕ
disk_with = 1 ∷ 1 ∷ []

-- the states of the desks and the board, one after the other
abbrev pub new_desk : DeskId → DeskState (List ℕ)
new_desk d = opened d disk_without []

abbrev pub a_penned : DeskState (List ℕ)
a_penned = record { seat = casting (waiting A first) (Write Void); book = []; failed = false; votes = the_vote ∷ []; disk = disk_with }

abbrev pub a_again : DeskState (List ℕ)
a_again = opened A disk_with (the_vote ∷ [])

abbrev pub b_noted : DeskState (List ℕ)
b_noted = record { seat = noting (waiting B first) (Write Void); book = []; failed = false; votes = []; disk = disk_without }

abbrev pub b_penned : DeskState (List ℕ)
b_penned = record {
  seat = waiting B (next_place first);
  book = Write Void ∷ [];
  failed = false;
  votes = the_vote ∷ [];
  disk = disk_with;
}

abbrev pub board_noted : BoardState
board_noted = record { reader = readers.noting (reading first) A (Write Void); book = [] }

abbrev pub board_agreed : BoardState
board_agreed = record { reader = reading (next_place first); book = Write Void ∷ [] }

abbrev pub a_says : Message
a_says = Message.Vote (vote_of A the_vote)

abbrev pub b_says : Message
b_says = Message.Vote (vote_of B the_vote)

abbrev pub board_asks : Message
board_asks = ask_for Asker.Board first

-- the datagrams of both votes, in match 7
abbrev pub a_bytes : List ℕ
a_bytes = written 7 a_says

abbrev pub b_bytes : List ℕ
b_bytes = written 7 b_says

-- the datagram of the board's ask
abbrev pub ask_bytes : List ℕ
ask_bytes = written 7 board_asks

-- the six lines of a book without play
abbrev pub no_play : List ℕ
no_play = codes "No play\nOvers -\nStriker -\nOther -\nTarget -\nResult -\n"

-- the last happenings, the newest first
abbrev pub ended : Sheet → List (Happening (List ℕ))
ended s =
    DeskGreeted A s (codes "No play\n0 pending: void\n")
    ∷ DeskBegun A (Opened a_again)
    ∷ DeskBegun A (NotOpened OpenRefusal.DeviceFailed disk_with)
    ∷ DeskEnded A disk_with
    ∷ BoardCalled 1 s boards.TurnEnded [] board_agreed no_play (sight_of s 1 (Write Void ∷ []) None ∷ [])
    ∷ []

-- before them the board asks, and each desk answers
abbrev pub exchanged : Sheet → List (Happening (List ℕ))
exchanged s =
    BoardCalled 1 s (boards.Given b_bytes (Ok (Heard hearing.Heard.Agreed))) [] board_agreed [] []
    ∷ DeskCalled B s (desks.Given ask_bytes What.Asked) (b_says ∷ []) b_penned []
    ∷ BoardCalled 1 s (boards.Given a_bytes (Ok (Heard hearing.Heard.Noted))) [] board_noted [] []
    ∷ DeskCalled A s (desks.Given ask_bytes What.Asked) (a_says ∷ []) a_penned []
    ∷ BoardCalled 1 s boards.Ticked (board_asks ∷ []) fresh_board [] []
    ∷ []

-- the first happenings
abbrev pub begun : Sheet → List (Happening (List ℕ))
begun s =
    BoardCalled 1 s (boards.Looked 0) [] fresh_board [] []
    ∷ BoardGreeted 1 s no_play (sight_of s 1 [] None ∷ [])
    ∷ BoardBegun 1
    ∷ DeskCalled B s (desks.Typed (codes "void") (Penned (Write Void) Settled.Agreed)) (b_says ∷ []) b_penned
    (codes "0 agreed: void\nNo play\n")
    ∷ DeskCalled B s (desks.Reminded HasWritten) [] b_noted (codes "0 the other has written\n")
    ∷ DeskCalled B s (desks.Given a_bytes (Heard hearing.Heard.Noted)) [] b_noted []
    ∷ DeskGreeted B s (codes "No play\n0 next\n")
    ∷ DeskCalled A s (desks.Typed (codes "void") (Penned (Write Void) Settled.Pending)) (a_says ∷ []) a_penned
    (codes "0 pending: void\n")
    ∷ DeskGreeted A s (codes "No play\n0 next\n")
    ∷ []

abbrev pub lived : Sheet → List (Happening (List ℕ))
lived s = ended s ++ (exchanged s ++ begun s)

-- The premises of the law of woven lives hold: an empty file shows no votes, both desks begin, and all that happened may happen
-- to processes, with any sheet and seals, in a match of one innings a side.
abbrev pub LivedIsWoven : Type 0
LivedIsWoven =
    NoneShowNone toy 7 × BothBegin (λ disk. disk) only no_faults (toy New) 7 1 (new_desk A) (new_desk B)
    × ((s : Sheet) (seals : Seals)
    → IsWoven (λ disk. disk) only no_faults seals toy 7 1 (start New 1 (new_desk A) (new_desk B)) (lived s))

-- amid them the board has an exchange with both desks, while no scorer types, no disk fails, and no process begins or ends
abbrev pub LivedHasExchange : Type 0
LivedHasExchange = (s : Sheet) → AllQuiet (exchanged s) × HaveExchanged 7 1 1 (exchanged s)
