-- A desk's process, from its beginning on a disk to its end.
use Rattle.std.specs.Prelude.{◌≡◌, ◌<◌, ℕ, List, length, Result, Ok, Err}
use Rattle.corrections.specs.Refusal.{book_refusal}
use Rattle.agree_core.specs.declared.messages.DeskId.{DeskId}
use Rattle.agree_core.specs.Desks.{DeskState}
use Rattle.agree_core.specs.FileView.{FileView}
use Rattle.agree_core.specs.Openings.{Creates, NotOpened, Opened, Opening, Opens}
use Rattle.cards.specs.Sheet.{Sheet}
use Rattle.desk.specs.declared.refusal.OpenRefusal.{OpenRefusal}
use Rattle.desk.specs.Answers.{open_cause}
use Rattle.live.specs.declared.{desk_life.LifeEnd.LifeEnd, ends.DeskEnd.DeskEnd}
use Rattle.live.specs.declared.desk_life.LifeEnd.TheVariants.{Ended as EndedSo, NotBegun}
use Rattle.live.specs.Desks.{DeskProcess, DiskView, Ended, desk_kind, own_line, with_greeting}
use Rattle.live.specs.Ends.{further, known_in}
use Rattle.live.specs.Runs.{Goes, Logs}
use Rattle.station_texts.specs.Texts.{greeting, unwarned}
use Rattle.live.specs.Ticks.{unticked}

-- a desk's process at its beginning
abbrev pub fresh : {Disk : Type 0} → DeskState Disk → DeskProcess Disk
fresh k = record { desk = k; warned = unwarned; turns = 0; ticking = unticked; course = further }

-- on a disk without a byte, a process creates its file
abbrev pub Makes : {Disk : Type 0} → FileView Disk → DeskId → Opening Disk → Type 0
Makes view d (Opened k) = Creates view d k
Makes view d (NotOpened why left) = Unit {0}

-- a process begins on this disk, whose read gives these bytes: it creates its file if there are none, and otherwise opens what
-- is there, also after a beginning that was cut off
abbrev pub BeginsOn :
    {Disk : Type 0} → FileView Disk → (Disk → List ℕ) → ℕ → DeskId → Disk → Opening Disk → Type 0
BeginsOn view seen innings d disk opening =
    (length (seen disk) ≡ 0 → Makes view d opening)
    × (0 < length (seen disk) → Opens view (book_refusal innings) d disk opening)

-- how the end of a process that has begun is reported
abbrev pub ended : Result (Unit {0}) DeskEnd → Result (Unit {0}) LifeEnd
ended (Ok done) = Ok done
ended (Err end) = Err (EndedSo end)

-- What followed, with this sheet: the opened desk told its scorer where it stands, and then ran; or, if no desk was opened,
-- nothing passed, was typed, was read of the clock or was told.
abbrev pub Follows :
    {Disk : Type 0} → Sheet → FileView Disk → DiskView Disk → ℕ → Opening Disk → Logs → Logs → ℕ → Result (Unit {0}) LifeEnd
    → Type 0
Follows sheet view disks innings (Opened k) before after turns result =
    (end : Result (Unit {0}) DeskEnd) × (last : DeskProcess _) × (result ≡ ended end)
    × Goes (desk_kind sheet view disks sheet.game innings) (fresh k) last
    (known_in end (with_greeting before (greeting sheet innings k.book k.seat.position (own_line k)))) (known_in end after)
    × Ended turns end last
Follows sheet view disks innings (NotOpened cause left) before after turns result =
    (why : OpenRefusal) × (open_cause why ≡ cause) × (result ≡ Err (NotBegun why)) × (after ≡ before)

-- The process of this desk on a disk: how it began, and what followed. `view` is what the disk shows of the desk's file, `seen`
-- what a read gives, `disks` what tells of its failures.
pub record DeskLives
    {Disk : Type 0} (view : FileView Disk) (seen : Disk → List ℕ) (disks : DiskView Disk) (sheet : Sheet) (innings : ℕ)
    (d : DeskId) (disk : Disk) (before after : Logs) (turns : ℕ) (result : Result (Unit {0}) LifeEnd) : Type 0 where
  pub opening : Opening Disk
  pub begins : BeginsOn view seen innings d disk opening
  pub follows : Follows sheet view disks innings opening before after turns result
