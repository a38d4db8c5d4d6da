-- A reminder about the other desk comes once.
use Rattle.std.specs.Prelude.{◌≡◌, ◌≢◌, ℕ, Bool, true, false, List, All}
use Rattle.agree_core.specs.declared.{messages.Message.Message, seat.Heard.Heard}
use Rattle.agree_core.specs.FileView.{FileView}
use Rattle.cards.specs.Sheet.{Sheet}
use Rattle.wire.specs.declared.what.What.{What}
use Rattle.live.specs.Desks.{DeskCall, DeskProcess, DiskView, Given, ProcessStep, Reminded, desk_kind}
use Rattle.live.specs.Runs.{Moment, Run}
use Rattle.station_texts.specs.Texts.{unwarned}
use Rattle.station_texts.specs.declared.reminder.Reminder.{Reminder}
use Rattle.station_texts.specs.declared.reminder.Reminder.TheVariants.{HasWritten, IsHeard, IsMissed}

-- the call takes a vote of the other desk that is news
abbrev pub brings_news : DeskCall → Bool
brings_news (Given bytes (What.Heard Heard.Noted)) = true
brings_news (Given bytes (What.Heard Heard.Agreed)) = true
brings_news (Given bytes (What.Heard Heard.Differ)) = true
brings_news call = false

module _ {Disk : Type 0} where
  abbrev pub BringsNone : Moment (DeskProcess Disk) DeskCall → Type 0
  BringsNone m = brings_news m.call ≡ false

  -- in this moment the scorer isn't given this reminder
  abbrev pub IsNot : Reminder → Moment (DeskProcess Disk) DeskCall → Type 0
  IsNot reminder m = m.call ≢ Reminded reminder

-- In a run of a desk's process: once its scorer was told that the other has written, that isn't told again before a vote of the
-- other desk that is news comes; that the other desk is heard again isn't told before it was told that it isn't heard; and
-- neither of these two is told again before the other one.
pub record RemindsOnce {Disk : Type 0} (view : FileView Disk) (disks : DiskView Disk) : Type 0 where
  pub writing : (sheet : Sheet) (game innings : ℕ) (k l : DeskProcess Disk) (out : List Message) (ms : List (Moment (DeskProcess Disk) DeskCall))
      → ProcessStep sheet view disks game innings k (Reminded HasWritten) out l
      → Run (desk_kind sheet view disks game innings) l ms → All BringsNone ms → All (IsNot HasWritten) ms
  pub missed : (sheet : Sheet) (game innings : ℕ) (k l : DeskProcess Disk) (out : List Message) (ms : List (Moment (DeskProcess Disk) DeskCall))
      → ProcessStep sheet view disks game innings k (Reminded IsMissed) out l
      → Run (desk_kind sheet view disks game innings) l ms → All (IsNot IsHeard) ms → All (IsNot IsMissed) ms
  pub heard : (sheet : Sheet) (game innings : ℕ) (k l : DeskProcess Disk) (out : List Message) (ms : List (Moment (DeskProcess Disk) DeskCall))
      → ProcessStep sheet view disks game innings k (Reminded IsHeard) out l
      → Run (desk_kind sheet view disks game innings) l ms → All (IsNot IsMissed) ms → All (IsNot IsHeard) ms
  pub first : (sheet : Sheet) (game innings : ℕ) (k : DeskProcess Disk) (ms : List (Moment (DeskProcess Disk) DeskCall))
      → k.warned ≡ unwarned
      → Run (desk_kind sheet view disks game innings) k ms → All (IsNot IsMissed) ms → All (IsNot IsHeard) ms
