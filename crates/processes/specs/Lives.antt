-- The life of one station: its processes, one after the other, each from its beginning to its end.
use Rattle.std.specs.Prelude.{◌≡◌, ℕ, List, [], ◌∷◌, ◌++◌, Err}
use Rattle.entry_log.specs.Disk.{Faults}
use Rattle.corrections.specs.CleanList.{history_of}
use Rattle.cards.specs.Board.{board as board_text}
use Rattle.cards.specs.Sheet.{Sheet}
use Rattle.agree_core.specs.declared.messages.DeskId.{DeskId}
use Rattle.agree_core.specs.Ballots.{Ballot}
use Rattle.agree_core.specs.Boards.{fresh_board}
use Rattle.agree_core.specs.Desks.{DeskState}
use Rattle.agree_core.specs.FileView.{FileView, Stays}
use Rattle.agree_core.specs.Openings.{Opened, Opening}
use Rattle.headline.specs.declared.version.FileVersion.{FileVersion}
use Rattle.headline.specs.declared.version.FileVersion.TheVariants.{Old}
use Rattle.headline.specs.Configurations.{Process, Running, Down, Node, process_disk, process_votes}
use Rattle.headline.specs.DeskFaults.{LosesPower}
use Rattle.headline.specs.Migrations.{Migrates, ToNew}
use Rattle.live.specs.Boards as boards
use Rattle.live.specs.Boards.{BoardCall, BoardTurn, board_kind, handed, shown}
use Rattle.live.specs.DeskLife.{BeginsOn, fresh}
use Rattle.live.specs.Desks.{DeskCall, DeskProcess, DeskStep, FitsLongest, course_after, desk_kind, told_of}
use Rattle.live.specs.Runs as own
use Rattle.live.specs.Sights.{Sight}
use Rattle.live.specs.Ticks.{unticked}
use Rattle.live.specs.declared.ends.DeskEnd.TheVariants.{Device}
use Rattle.station_texts.specs.declared.notices.Notice.{Notice}
use Rattle.processes.specs.Happenings.{BoardBegun, BoardCalled, BoardGreeted, DeskBegun, DeskCalled, DeskEnded, DeskGreeted, FileMigrated, Happening, PowerLost, begun, migrated}
use Rattle.processes.specs.Printing.{HandsBook, greeting_of}

-- A contract speaks of a process when its call returns, but a process may be killed amid a call or run on for ever. The claims
-- hold of these too: the logs of what passed, was typed and was written only grow, and at each moment the next call of the
-- disk, the link or the writer may fail and end the call. So whatever a process has done up to a moment, a process that ended
-- there has done too, and the contract speaks of that one. What a process does to its file before it begins on it, a sync or a
-- copy, belongs to its beginning. A migration stands between an end and a beginning.

-- A stage of a desk's life: its process, begun with this sheet as this desk, tells its scorer how it stands and makes these
-- calls; it is cut off amid a call, which then has the effects of a call whose disk fails, and prints nothing; it has ended or
-- was killed, with the disk left; its laptop has lost power, with the disk left; the next process begins on its file; its file
-- is migrated, with these votes, to this disk.
pub data Stage (Disk : Type 0) : Type 0 where
  CallsMade : Sheet → DeskState Disk → List (own.Moment (DeskProcess Disk) DeskCall) → Stage Disk
  CutOff : Sheet → DeskCall → DeskState Disk → Stage Disk
  ProcessEnd : Disk → Stage Disk
  PowerLoss : Disk → Stage Disk
  Beginning : Opening Disk → Stage Disk
  FileMigration : List Ballot → Disk → Stage Disk

abbrev pub after_calls :
    {Disk : Type 0} → DeskState Disk → List (own.Moment (DeskProcess Disk) DeskCall) → Process Disk
after_calls k ms = Running ((λ (p : DeskProcess _). p.desk) (own.last_of (fresh k) ms))

-- the desk after a stage
abbrev pub after_stage : {Disk : Type 0} → Node Disk → Stage Disk → Node Disk
after_stage x (CallsMade s k ms) = record x { process = after_calls k ms }
after_stage x (CutOff s call l) = record x { process = Running l }
after_stage x (ProcessEnd disk) = record x { process = Down (process_votes x.process) disk }
after_stage x (PowerLoss disk) = record x { process = Down (process_votes x.process) disk }
after_stage x (Beginning opening) = record x { process = begun (process_votes x.process) opening }
after_stage x (FileMigration votes new) = migrated x new

-- the desk after these stages, the newest first
abbrev pub after_life : {Disk : Type 0} → Node Disk → List (Stage Disk) → Node Disk
after_life x [] = x
after_life x (stage ∷ stages) = after_stage (after_life x stages) stage

-- a desk's first process makes its file, or finds one without votes
abbrev pub BeginsFirst : {Disk : Type 0} → FileView Disk → (Disk → List ℕ) → ℕ → DeskId → DeskState Disk → Type 0
BeginsFirst view seen innings d k =
    (disk : _) × BeginsOn view seen innings d disk (Opened k) × (k.votes ≡ [])

-- the moments are a run of a desk's process, with this sheet, from its beginning on; `view` is what a disk shows of its file,
-- `faults` what is told of the disk's failures
abbrev pub RunsFrom :
    {Disk : Type 0} → Sheet → FileView Disk → (Disk → Faults) → ℕ → ℕ
    → DeskState Disk → List (own.Moment (DeskProcess Disk) DeskCall) → Type 0
RunsFrom sheet view faults game innings k ms =
    (room : ℕ → ℕ) × (cap : ℕ)
    × own.Run (desk_kind sheet view (record { faults = faults; FitsLongest = FitsLongest room cap }) game innings) (fresh k) ms

-- desk d of a match of this number and innings a side; `view` is what a disk shows of a file of each version, `seen` what a
-- read gives, `faults` what is told of the disk's failures
module _
    {Disk : Type 0} (view : FileVersion → FileView Disk) (seen : Disk → List ℕ) (faults : Disk → Faults) (d : DeskId)
    (game innings : ℕ) where
  -- which stage may come next
  abbrev pub IsNextStage : Node Disk → Stage Disk → Type 0
  IsNextStage x (CallsMade s k ms) = (x.process ≡ Running k) × RunsFrom s (view x.version) faults game innings k ms
  IsNextStage x (CutOff s call l) =
      (k : DeskState Disk) × (x.process ≡ Running k) × (course_after k call ≡ Err Device)
      × DeskStep s (view x.version) game innings k call [] l
  IsNextStage x (ProcessEnd disk) = (k : DeskState Disk) × (x.process ≡ Running k) × Stays (view x.version) k.disk disk
  IsNextStage x (PowerLoss disk) = LosesPower (view x.version) (process_disk x.process) disk
  IsNextStage x (Beginning opening) =
      (votes : List Ballot) × (disk : Disk) × (x.process ≡ Down votes disk)
      × BeginsOn (view x.version) seen innings d disk opening
  IsNextStage x (FileMigration votes new) =
      (had : List Ballot) × (disk : Disk) × (x.process ≡ Down had disk) × (x.version ≡ Old)
      × Migrates view disk (ToNew votes new)

  abbrev pub IsLife : Node Disk → List (Stage Disk) → Type 0
  IsLife x [] = Unit {0}
  IsLife x (stage ∷ stages) = IsLife x stages × IsNextStage (after_life x stages) stage

-- what happens at a desk in a stage, or in its life, with what its scorer is told
abbrev pub calls_of :
    {Disk : Type 0} → ℕ → DeskId → Sheet → DeskState Disk → List (own.Moment (DeskProcess Disk) DeskCall)
    → List (Happening Disk)
calls_of innings d s k [] = DeskGreeted d s (greeting_of s innings k) ∷ []
calls_of innings d s k (m ∷ ms) =
    DeskCalled d s m.call m.out ((λ (p : DeskProcess _). p.desk) m.after)
    (told_of s innings (own.last_of (fresh k) ms) m.call m.after)
    ∷ calls_of innings d s k ms

abbrev pub stage_happens : {Disk : Type 0} → ℕ → DeskId → Stage Disk → List (Happening Disk)
stage_happens innings d (CallsMade s k ms) = calls_of innings d s k ms
stage_happens innings d (CutOff s call l) = DeskCalled d s call [] l [] ∷ []
stage_happens innings d (ProcessEnd disk) = DeskEnded d disk ∷ []
stage_happens innings d (PowerLoss disk) = PowerLost d disk ∷ []
stage_happens innings d (Beginning opening) = DeskBegun d opening ∷ []
stage_happens innings d (FileMigration votes new) = FileMigrated d votes new ∷ []

abbrev pub life_happens : {Disk : Type 0} → ℕ → DeskId → List (Stage Disk) → List (Happening Disk)
life_happens innings d [] = []
life_happens innings d (x ∷ xs) = stage_happens innings d x ++ life_happens innings d xs

-- a board's process at its beginning, with an empty book, after these notices and whatever was handed over to be shown
abbrev pub fresh_turn : List Notice → List Sight → BoardTurn
fresh_turn noted seen = boards.begun fresh_board 0 boards.unheard unticked noted seen

-- the moments are a run of a board's process, with this sheet, from its beginning on
abbrev pub BoardRuns : ℕ → ℕ → Sheet → BoardTurn → List (own.Moment BoardTurn BoardCall) → Type 0
BoardRuns game innings s k ms = own.Run (board_kind s game innings) k ms

-- a process of a board: the sheet that it was begun with, the notices and what was handed over before its first turn, what it
-- handed over as it began, and its calls
pub record BoardProcess : Type 0 where
  pub sheet : Sheet
  pub noted : List Notice
  pub seen : List Sight
  pub first : List Sight
  pub calls : List (own.Moment BoardTurn BoardCall)

abbrev pub first_turn : BoardProcess → BoardTurn
first_turn p = fresh_turn p.noted p.seen

-- it first hands over its empty book, or nothing, and its calls are a run of a board's process
abbrev pub IsBoardProcess : ℕ → ℕ → BoardProcess → Type 0
IsBoardProcess game innings p =
    HandsBook p.sheet innings [] p.first × BoardRuns game innings p.sheet (first_turn p) p.calls

-- each process of a board's life is one of a board, the newest first
abbrev pub IsBoardLife : ℕ → ℕ → List BoardProcess → Type 0
IsBoardLife game innings [] = Unit {0}
IsBoardLife game innings (p ∷ ps) = IsBoardLife game innings ps × IsBoardProcess game innings p

-- what happens at a board in a process, or in its life, with what it prints and hands over
abbrev pub board_calls :
    {Disk : Type 0} → ℕ → ℕ → Sheet → BoardTurn → List Sight → List (own.Moment BoardTurn BoardCall)
    → List (Happening Disk)
board_calls innings n s k first [] = BoardGreeted n s (board_text s innings (history_of k.board.book)) first ∷ []
board_calls innings n s k first (m ∷ ms) =
    BoardCalled n s m.call m.out ((λ (k : BoardTurn). k.board) m.after)
    (shown s innings (own.last_of k ms) m.call m.after)
    (handed s innings (own.last_of k ms) m.call ((λ (k : BoardTurn). k.board) m.after))
    ∷ board_calls innings n s k first ms

abbrev pub board_happens : {Disk : Type 0} → ℕ → ℕ → List BoardProcess → List (Happening Disk)
board_happens innings n [] = []
board_happens innings n (p ∷ ps) =
    board_calls innings n p.sheet (first_turn p) p.first p.calls ++ BoardBegun n ∷ board_happens innings n ps
