-- What happens to the processes of two desks and of boards, in one order, and the configuration after it.
use Rattle.std.specs.Prelude.{◌≡◌, ℕ, List, [], ◌∷◌, ◌++◌, Some}
use Rattle.corrections.specs.Refusal.{book_refusal}
use Rattle.cards.specs.Sheet.{Sheet}
use Rattle.agree_core.specs.declared.messages.{DeskId.DeskId, Message.Message}
use Rattle.agree_core.specs.Ballots.{Ballot}
use Rattle.agree_core.specs.Boards.{BoardState, fresh_board}
use Rattle.agree_core.specs.Desks.{DeskState}
use Rattle.agree_core.specs.FileView.{FileView, Stays}
use Rattle.agree_core.specs.Openings.{Opening, Opened, NotOpened, Opens}
use Rattle.wire.specs.Layout.{Says}
use Rattle.headline.specs.declared.version.FileVersion.{FileVersion}
use Rattle.headline.specs.declared.version.FileVersion.TheVariants.{Old, New}
use Rattle.headline.specs.Configurations.{Process, Running, Down, Node, Configuration, board_at, node, process_disk, process_votes, with_board, with_node}
use Rattle.headline.specs.DeskFaults.{LosesPower}
use Rattle.headline.specs.Given.{IsGiven}
use Rattle.headline.specs.Migrations.{Migrates, ToNew}
use Rattle.live.specs.Boards as boards
use Rattle.live.specs.Boards.{BoardCall, BoardStep}
use Rattle.live.specs.Desks as desks
use Rattle.live.specs.Desks.{DeskCall, DeskStep}
use Rattle.live.specs.Sights.{Sight}
use Rattle.processes.specs.Printing.{Greets, Hands, Prints, Tells, greeting_of}

-- What happens to a desk: its process tells its scorer how the desk stands, by the sheet that it was begun with; a call, with
-- that sheet, the messages handed out, the desk after it, and the printed text; the end of its process, with the disk left; a
-- power loss of its laptop, with the disk left; its beginning on its file; the migration of that file, with the votes that it
-- shows and the disk with the new one. To a board: its process prints its book, by the sheet that it was begun with, and hands
-- it over to be shown; a call, likewise with its sheet, text, and what was handed over; its beginning. A process that is killed
-- amid a call has made a call whose disk failed, and then ended.
pub data Happening (Disk : Type 0) : Type 0 where
  DeskGreeted : DeskId → Sheet → List ℕ → Happening Disk
  DeskCalled : DeskId → Sheet → DeskCall → List Message → DeskState Disk → List ℕ → Happening Disk
  DeskEnded : DeskId → Disk → Happening Disk
  PowerLost : DeskId → Disk → Happening Disk
  DeskBegun : DeskId → Opening Disk → Happening Disk
  FileMigrated : DeskId → List Ballot → Disk → Happening Disk
  BoardGreeted : ℕ → Sheet → List ℕ → List Sight → Happening Disk
  BoardCalled : ℕ → Sheet → BoardCall → List Message → BoardState → List ℕ → List Sight → Happening Disk
  BoardBegun : ℕ → Happening Disk

-- the desk that was opened, or what is left of one that wasn't opened
abbrev pub begun : {Disk : Type 0} → List Ballot → Opening Disk → Process Disk
begun votes (Opened k) = Running k
begun votes (NotOpened why left) = Down votes left

-- the configuration with this process at a desk, and these messages added to those sent
abbrev pub with_process : {Disk : Type 0} → Configuration Disk → DeskId → Process Disk → List Message → Configuration Disk
with_process w d p out = with_node w d (record (node w d) { process = p }) out

-- a desk that is down, after its file was migrated to this disk
abbrev pub migrated : {Disk : Type 0} → Node Disk → Disk → Node Disk
migrated x new = record x { version = New; process = Down (process_votes x.process) new }

-- the configuration after a happening
abbrev pub after_one : {Disk : Type 0} → Configuration Disk → Happening Disk → Configuration Disk
after_one w (DeskGreeted d s text) = w
after_one w (DeskCalled d s call out l text) = with_process w d (Running l) out
after_one w (DeskEnded d disk) = with_process w d (Down (process_votes (node w d).process) disk) []
after_one w (PowerLost d disk) = with_process w d (Down (process_votes (node w d).process) disk) []
after_one w (DeskBegun d opening) = with_process w d (begun (process_votes (node w d).process) opening) []
after_one w (FileMigrated d votes new) = with_node w d (migrated (node w d) new) []
after_one w (BoardGreeted n s text seen) = w
after_one w (BoardCalled n s call out l text seen) =
    record w { boards = with_board w.boards n l; sent = w.sent ++ out }
after_one w (BoardBegun n) = record w { boards = with_board w.boards n fresh_board }

-- the configuration after all these happenings, the newest first
abbrev pub after : {Disk : Type 0} → Configuration Disk → List (Happening Disk) → Configuration Disk
after w [] = w
after w (h ∷ hs) = after_one (after w hs) h

-- if these bytes read as a message of the match, a station sent it before, or it is an ask
abbrev pub WasSent : ℕ → List Message → List ℕ → Type 0
WasSent game sent bytes = (m : Message) → Says game bytes m → (i : ℕ) × IsGiven sent i m

-- this holds of the datagram that a call is given, if any
abbrev pub DeskCame : ℕ → List Message → DeskCall → Type 0
DeskCame game sent (desks.Given bytes what) = WasSent game sent bytes
DeskCame game sent call = Unit {0}

abbrev pub BoardCame : ℕ → List Message → BoardCall → Type 0
BoardCame game sent (boards.Given bytes answer) = WasSent game sent bytes
BoardCame game sent (boards.Parted bytes back) = WasSent game sent bytes
BoardCame game sent call = Unit {0}

-- in a match of this number and innings a side, where `view` is what a disk shows of each desk's file
module _ {Disk : Type 0} (view : DeskId → FileVersion → FileView Disk) (game innings : ℕ) where
  -- what may happen in this configuration
  abbrev pub Happens : Configuration Disk → Happening Disk → Type 0
  Happens w (DeskGreeted d s text) =
      (k : DeskState Disk) × ((node w d).process ≡ Running k) × (text ≡ greeting_of s innings k)
  Happens w (DeskCalled d s call out l text) =
      (k : DeskState Disk) × ((node w d).process ≡ Running k) × DeskCame game w.sent call
      × DeskStep s (view d (node w d).version) game innings k call out l × Tells s innings k call l text
  Happens w (DeskEnded d disk) =
      (k : DeskState Disk) × ((node w d).process ≡ Running k)
      × Stays (view d (node w d).version) k.disk disk
  Happens w (PowerLost d disk) =
      LosesPower (view d (node w d).version) (process_disk (node w d).process) disk
  Happens w (DeskBegun d opening) =
      (votes : List Ballot) × (disk : Disk) × ((node w d).process ≡ Down votes disk)
      × Opens (view d (node w d).version) (book_refusal innings) d disk opening
  Happens w (FileMigrated d votes new) =
      (had : List Ballot) × (disk : Disk) × ((node w d).process ≡ Down had disk) × ((node w d).version ≡ Old)
      × Migrates (view d) disk (ToNew votes new)
  Happens w (BoardGreeted n s text seen) =
      (k : BoardState) × (board_at w.boards n ≡ Some k) × Greets s innings k text seen
  Happens w (BoardCalled n s call out l text seen) =
      (k : BoardState) × (board_at w.boards n ≡ Some k) × BoardCame game w.sent call
      × BoardStep game innings k call out l × Prints s innings call l text × Hands s innings call l seen
  Happens w (BoardBegun n) = (k : BoardState) × (board_at w.boards n ≡ Some k)

  -- each happening may happen after those before it
  abbrev pub Flow : Configuration Disk → List (Happening Disk) → Type 0
  Flow w [] = Unit {0}
  Flow w (h ∷ hs) = Flow w hs × Happens (after w hs) h
