-- The votes of a desk's whole life are for lines that its scorer typed.
use Rattle.std.specs.Prelude.{ℕ, List, [], Option, Result, flat_map}
use Rattle.agree_core.specs.declared.messages.DeskId.{DeskId}
use Rattle.agree_core.specs.FileView.{FileView}
use Rattle.agree_core.specs.Openings.{NotOpened, Opened}
use Rattle.cards.specs.Sheet.{Sheet}
use Rattle.links.specs.Typing.{Input}
use Rattle.ahead.specs.Ahead.{kept_of}
use Rattle.ahead.specs.Order.{AreAmong, lines_of}
use Rattle.live.specs.declared.desk_life.LifeEnd.{LifeEnd}
use Rattle.live.specs.Before.{lines_said}
use Rattle.live.specs.DeskLife.{DeskLives, Follows}
use Rattle.live.specs.Desks.{DeskCall, DeskProcess, DiskView}
use Rattle.live.specs.Runs.{Logs, Moment}
use Rattle.desk_command.specs.Keeping.{WasKept}
use Rattle.desk_command.specs.Traces.{Traces}

module _
    {Disk : Type 0} {view : FileView Disk} {seen : Disk → List ℕ} {disks : DiskView Disk} {sheet : Sheet} {innings : ℕ}
    {d : DeskId} {disk : Disk} {before after : Logs} {turns : ℕ} {result : Result (Unit {0}) LifeEnd} where
  -- the calls of a process, the newest first: those of its run, and none if its desk wasn't opened
  abbrev pub calls_of : DeskLives view seen disks sheet innings d disk before after turns result → List (Moment (DeskProcess Disk) DeskCall)
  calls_of lives =
      (elim (lives.opening) as (λ opening.
      Follows sheet view disks innings opening before after turns result → List (Moment (DeskProcess Disk) DeskCall)) [
        | Opened k ↦ λ run. (run.3).moments
        | NotOpened cause left ↦ λ follows. []
      ]) lives.follows

-- a process of this desk: the files that it was kept on, and what it left to be seen
pub record Process (desk : DeskId) : Type 0 where
  pub path : List ℕ
  pub copy : Option (List ℕ)
  pub traces : Traces
  pub kept : WasKept desk path copy traces

module _ {desk : DeskId} where
  -- the lines for which votes were cast or refused in a process
  abbrev pub said_in : Process desk → List (List ℕ)
  said_in p = lines_said (calls_of ((p.kept).lives).lives)

  -- the lines for which a vote may be cast: they were typed and not taken back
  abbrev pub kept_in : Process desk → List (List ℕ)
  kept_in p = kept_of (p.kept).log

  -- all lines that were typed
  abbrev pub typed_in : Process desk → List (List ℕ)
  typed_in p = lines_of (p.traces).typed

  -- In a desk's processes, one after the other, the lines for which votes were cast or refused are among those that weren't
  -- taken back, and these are among all that were typed, each at most once and in order: so no line is used in two processes.
  pub record VotesWereTyped (life : List (Process desk)) : Type 0 where
    pub said : AreAmong (flat_map said_in life) (flat_map kept_in life)
    pub kept : AreAmong (flat_map kept_in life) (flat_map typed_in life)
