-- The contracts of `live`, read as parts of a station's life.
use Rattle.std.specs.Prelude.{◌≡◌, ◌<◌, ℕ, List, [], ◌∷◌, ◌++◌, length, Result, IfOk}
use Rattle.notation.specs.declared.entry.Entry.{Entry}
use Rattle.corrections.specs.declared.book_of.BookOf.{Ghosts as Books}
use Rattle.entry_log.specs.Disk.{Faults, Images}
use Rattle.entry_log.specs.Slots.{FileContents}
use Rattle.entry_log.specs.declared.{disk.Disk.Ghosts as Disks, slots_of.SlotsOf.Ghosts as Files}
use Rattle.corrections.specs.CleanList.{history_of}
use Rattle.corrections.specs.Refusal.{book_refusal}
use Rattle.vote_store.specs.View.{file_view}
use Rattle.agree_core.specs.declared.messages.DeskId.{DeskId}
use Rattle.agree_core.specs.Ballots.{Ballot}
use Rattle.agree_core.specs.Boards.{fresh_board}
use Rattle.agree_core.specs.FileView.{FileView}
use Rattle.agree_core.specs.Openings.{Creates, NotOpened, Opened, Opening, Opens}
use Rattle.headline.specs.declared.version.FileVersion.{FileVersion}
use Rattle.headline.specs.Configurations.{Down, Node, Running}
use Rattle.cards.specs.Board.{board as board_text}
use Rattle.cards.specs.Sheet.{Sheet}
use Rattle.streams.specs.declared.watched.WriteFailed.{WriteFailed}
use Rattle.board.specs.declared.board.Board.{Board}
use Rattle.board.specs.Board as board
use Rattle.desk.specs.declared.{desk.Desk.Desk, refusal.OpenRefusal.OpenRefusal}
use Rattle.desk.specs.Desk.{game_of, opening, state_of, view_of}
use Rattle.live.specs.Boards as boards
use Rattle.live.specs.Boards.{BoardTurn, board_kind}
use Rattle.live.specs.Desks.{DeskCall, DeskProcess, DeskRuns, DiskView, FitsLongest, desk_kind, innings_of, kind_of, with_greeting}
use Rattle.live.specs.Ends.{known_in}
use Rattle.live.specs.Runs as own
use Rattle.live.specs.Runs.{Logs, LogsGrow, known_where, with_told}
use Rattle.live.specs.Sights.{Sight}
use Rattle.live.specs.declared.{desk_life.LifeEnd.LifeEnd, ends.DeskEnd.DeskEnd}
use Rattle.station_texts.specs.declared.notices.Notice.{Notice}
use Rattle.live.specs.DeskLife.{BeginsOn, DeskLives, ended, fresh}
use Rattle.processes.specs.Lives.{Beginning, BoardProcess, CallsMade, IsBoardProcess, IsLife, RunsFrom, Stage, after_calls, first_turn}
use Rattle.processes.specs.Printing.{greeting_of}

module _ {S B D : Type 0} {g : Files S D} {h : Disks D} {b : Books B} where
  -- By what `begin_desk` ensures of its answer (`creates`, `opens`), a process may begin like this on this disk.
  abbrev pub BeginningIsStage : Result (Desk S B D g h b) (OpenRefusal × D) → Type 0
  BeginningIsStage made =
      (disk : D) (d : DeskId) (game innings : ℕ)
      → (length (h.seen disk) ≡ 0
      → IfOk made (λ k. Creates (file_view g.contents h.seen h.images d game) d (state_of k)))
      → (0 < length (h.seen disk)
      → Opens (file_view g.contents h.seen h.images d game) (book_refusal innings) d disk (opening made))
      → BeginsOn (file_view g.contents h.seen h.images d game) h.seen innings d disk (opening made)

  -- By what `run_desk` ensures, from the desk at the start of its process to the desk at its end: the moments are a run from
  -- its beginning on; their datagrams are exactly those that passed, their lines those that were typed, their times those that
  -- its clock showed, their texts those that were written, and their values those that were told. The first text says how the
  -- match stands, and each later one belongs to the book that the desk has after its call.
  abbrev pub DeskRunIsStage : (old new : Desk S B D g h b) → Type 0
  DeskRunIsStage old new =
      (sheet : Sheet) (before after : Logs) (turns : ℕ) (result : Result (Unit {0}) DeskEnd)
      → DeskRuns sheet old new before after turns result
      → (ms : List (own.Moment (DeskProcess D) DeskCall))
      × RunsFrom sheet (view_of old) h.faults (game_of old) (innings_of old) (state_of old) ms
      × (after_calls (state_of old) ms ≡ Running (state_of new))
      × LogsGrow (kind_of sheet old) (fresh (state_of old)) ms
      (known_in result (with_greeting before (greeting_of sheet (innings_of old) (state_of old)))) (known_in result after)

module _ {Disk : Type 0} where
  -- the stages of one process of a desk: its beginning, and its calls if the desk was opened
  abbrev pub process_stages : Sheet → Opening Disk → List (own.Moment (DeskProcess Disk) DeskCall) → List (Stage Disk)
  process_stages sheet (Opened k) calls = CallsMade sheet k calls ∷ Beginning (Opened k) ∷ []
  process_stages sheet (NotOpened cause left) calls = Beginning (NotOpened cause left) ∷ []

  -- a process that began on this file, of a desk in this match
  module _ (view : FileView Disk) (disks : DiskView Disk) (sheet : Sheet) (innings : ℕ) where
    abbrev pub process_kind : own.Kind (DeskProcess Disk) DeskCall
    process_kind = desk_kind sheet view disks sheet.game innings

    -- how the process's logs grew: not at all, if no desk was opened
    abbrev pub ProcessLogs :
        Opening Disk → List (own.Moment (DeskProcess Disk) DeskCall) → Logs → Logs → Result (Unit {0}) LifeEnd → Type 0
    ProcessLogs (Opened k) calls before after result =
        (end : Result (Unit {0}) DeskEnd) × (result ≡ ended end)
        × LogsGrow process_kind (fresh k) calls (known_in end (with_greeting before (greeting_of sheet innings k))) (known_in end after)
    ProcessLogs (NotOpened cause left) calls before after result = after ≡ before

-- for disks of this kind, with `seen` as what is read, `images` as what a power loss may leave, and `faults` as what is told of
-- their failures
module _ {Disk : Type 0} (seen : Disk → List ℕ) (images : Disk → Images) (faults : Disk → Faults) where
  -- By what `keep_desk` ensures, its process on the disk of a desk that is down is a part of that desk's life: its beginning,
  -- and its calls if the desk was opened. Its datagrams are exactly those that passed, its lines those that were typed, its
  -- times those that were read, and its texts those that were written.
  abbrev pub DeskLifeIsLife : Type 0
  DeskLifeIsLife =
      (contents : FileVersion → FileContents) (d : DeskId) (x : Node Disk) (votes : List Ballot) (disk : Disk)
      (sheet : Sheet) (innings : ℕ) (room : ℕ → ℕ) (cap : ℕ) (before after : Logs) (turns : ℕ) (result : Result (Unit {0}) LifeEnd)
      → x.process ≡ Down votes disk
      → DeskLives (file_view (contents x.version) seen images d sheet.game) seen
      (record { faults = faults; FitsLongest = FitsLongest room cap }) sheet innings d disk before after turns result
      → (opening : Opening Disk) × (calls : List (own.Moment (DeskProcess Disk) DeskCall))
      × IsLife (λ version. file_view (contents version) seen images d sheet.game) seen faults d sheet.game innings x
      (process_stages sheet opening calls)
      × ProcessLogs (file_view (contents x.version) seen images d sheet.game)
      (record { faults = faults; FitsLongest = FitsLongest room cap }) sheet innings opening calls before after result

module _ {B : Type 0} {g : _} (content : B → List Entry) (innings_of : B → ℕ) where
  -- By what `keep_board` ensures, a new board's run is a process of a board's life, with this sheet: its datagrams are exactly
  -- those that passed, its times those that its clock showed, its texts those that were written, the empty book's first, and
  -- its sights those that were handed over to be shown.
  abbrev pub BoardLifeIsProcess : (old new : Board B g) → Type 0
  BoardLifeIsProcess old new =
      (sheet : Sheet) (before after : Logs) (turns : ℕ) (noted notes : List Notice) (seen sees : List Sight)
      (result : Result (Unit {0}) WriteFailed)
      → board.state_of content old ≡ fresh_board
      → boards.BoardLives content innings_of sheet old new before after turns noted notes seen sees result
      → (p : BoardProcess) × (p.sheet ≡ sheet) × IsBoardProcess (board.game_of old) (innings_of (board.book_of old)) p
      × ((λ (k : BoardTurn). k.board) (own.last_of (first_turn p) p.calls) ≡ board.state_of content new)
      × LogsGrow (board_kind sheet (board.game_of old) (innings_of (board.book_of old))) (first_turn p) p.calls
      (known_where result (with_told before (board_text sheet (innings_of (board.book_of old)) (history_of []))))
      (known_where result after)
      × (p.seen ≡ seen ++ p.first) × (sees ≡ (λ (k : BoardTurn). k.seen) (own.last_of (first_turn p) p.calls))
