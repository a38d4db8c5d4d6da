-- The lives of the program's stations, as `start_desk` and `start_board` answer them, and what becomes of a desk's disk between
-- two.
use Rattle.std.specs.Prelude.{◌≡◌, ℕ, List, [], ◌∷◌, ◌++◌, drop}
use Rattle.agree_core.specs.declared.messages.DeskId.{DeskId}
use Rattle.agree_core.specs.Ballots.{Ballot}
use Rattle.agree_core.specs.Desks.{DeskState}
use Rattle.agree_core.specs.FileView.{FileView, Stays}
use Rattle.agree_core.specs.Openings.{Opened, Opening}
use Rattle.cards.specs.Sheet.{Sheet}
use Rattle.headline.specs.Configurations.{Down, Node, Running, process_disk}
use Rattle.headline.specs.DeskFaults.{LosesPower}
use Rattle.live.specs.Desks.{DeskCall, DeskProcess}
use Rattle.live.specs.Runs.{Moment}
use Rattle.desk_command.specs.declared.{desk_disk.DeskDisk.DeskDisk, life.Life.Life}
use Rattle.desk_command.specs.Lives.{IsOf}
use Rattle.desk_command.specs.Typed as desks
use Rattle.desk_command.specs.Typed.{Process}
use Rattle.board_command.specs.declared.life.BoardLife.{BoardLife}
use Rattle.board_command.specs.Keeping as boards
use Rattle.board_command.specs.Lives.{traces_in}
use Rattle.processes.specs.Lives.{BoardProcess, CallsMade, PowerLoss, ProcessEnd, Stage, after_life}
use Rattle.processes.specs.Stations.{process_stages}

-- a life of this desk, its process, and how many of the last calls weren't made: more than none if it was killed before them
pub record LifeOfDesk (desk : DeskId) : Type 0 where
  pub life : Life
  pub process : Process desk
  pub is : IsOf life process
  pub unmade : ℕ

module _ {desk : DeskId} where
  abbrev pub sheet_of : LifeOfDesk desk → Sheet
  sheet_of l = l.process.traces.sheet

  -- the disk that the life began on, how it began, and the calls that it made then, the newest first
  abbrev pub disk_of : LifeOfDesk desk → DeskDisk
  disk_of l = l.process.kept.disk

  abbrev pub opening_of : LifeOfDesk desk → Opening DeskDisk
  opening_of l = l.process.kept.lives.lives.opening

  abbrev pub calls_of : LifeOfDesk desk → List (Moment (DeskProcess DeskDisk) DeskCall)
  calls_of l = drop l.unmade (desks.calls_of l.process.kept.lives.lives)

-- what comes next at a desk: a life; the end of its process, with the disk it left; or a loss of power, with the disk it left
pub data Next (desk : DeskId) : Type 0 where
  Lived : LifeOfDesk desk → Next desk
  Ended : DeskDisk → Next desk
  LostPower : DeskDisk → Next desk

module _ {desk : DeskId} where
  abbrev pub stages_of : Next desk → List (Stage DeskDisk)
  stages_of (Lived l) = process_stages (sheet_of l) (opening_of l) (calls_of l)
  stages_of (Ended disk) = ProcessEnd disk ∷ []
  stages_of (LostPower disk) = PowerLoss disk ∷ []

  -- the desk's stages after the first ones, the newest first
  abbrev pub stages_after : List (Stage DeskDisk) → List (Next desk) → List (Stage DeskDisk)
  stages_after first [] = first
  stages_after first (x ∷ xs) = stages_of x ++ stages_after first xs

-- all lives of a desk in a match: the first, which began it in this state, and what came later, the newest first
pub record LivesOfDesk (desk : DeskId) : Type 0 where
  pub first : LifeOfDesk desk
  pub begun : DeskState DeskDisk
  pub later : List (Next desk)

abbrev pub all_stages : {desk : DeskId} → LivesOfDesk desk → List (Stage DeskDisk)
all_stages d = stages_after (CallsMade (sheet_of d.first) d.begun (calls_of d.first) ∷ []) d.later

-- the sheet is of this match
pub record IsOfMatch (game innings : ℕ) (sheet : Sheet) : Type 0 where
  pub same_game : sheet.game ≡ game
  pub same_innings : sheet.innings ≡ innings

-- the first life opened the desk, on a file without votes
abbrev pub OpensFirst : DeskState DeskDisk → Opening DeskDisk → Type 0
OpensFirst begun (Opened k) = (k ≡ begun) × (k.votes ≡ [])
OpensFirst begun opening = ⊥

module _ {desk : DeskId} (view : FileView DeskDisk) (game innings : ℕ) where
  -- What may come next, by what is on the desk's disk: a life begins, with a sheet of the match, on the disk that was left; the
  -- disk that a process leaves shows what the process's disk showed; and after a loss of power the disk has one of the images
  -- of what it had.
  abbrev pub MayFollow : Node DeskDisk → Next desk → Type 0
  MayFollow x (Lived l) = IsOfMatch game innings (sheet_of l) × (votes : List Ballot) × (x.process ≡ Down votes (disk_of l))
  MayFollow x (Ended disk) = (k : DeskState DeskDisk) × (x.process ≡ Running k) × Stays view k.disk disk
  MayFollow x (LostPower disk) = LosesPower view (process_disk x.process) disk

  -- each of these follows the one before, after the first stages of the desk
  abbrev pub AllFollow : Node DeskDisk → List (Stage DeskDisk) → List (Next desk) → Type 0
  AllFollow x first [] = Unit {0}
  AllFollow x first (y ∷ ys) = AllFollow x first ys × MayFollow (after_life x (stages_after first ys)) y

-- a life of a board, its process, and how many of the last calls weren't made
pub record LifeOfBoard : Type 0 where
  pub life : BoardLife
  pub kept : boards.WasKept (traces_in life)
  pub unmade : ℕ

abbrev pub board_sheet : LifeOfBoard → Sheet
board_sheet b = (traces_in b.life).sheet

abbrev pub board_process : LifeOfBoard → BoardProcess
board_process b = record {
  sheet = board_sheet b;
  noted = [];
  seen = b.kept.lives.first;
  first = b.kept.lives.first;
  calls = drop b.unmade b.kept.lives.runs.goes.goes.moments;
}
