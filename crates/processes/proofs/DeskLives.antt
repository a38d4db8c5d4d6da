-- A desk's life, step by step.
use Rattle.std.proofs.Common.{arith, ◌≡◌, ℕ, List, [], ◌∷◌, Err, refl, ap}
use Rattle.std.specs.Prelude.{All}
use Rattle.std.proofs.lemmas.List.Elements.{All-nil}
use Rattle.entry_log.specs.Disk.{Faults}
use Rattle.cards.specs.Sheet.{Sheet}
use Rattle.agree_core.specs.declared.messages.DeskId.{DeskId}
use Rattle.agree_core.specs.Ballots.{Ballot}
use Rattle.agree_core.specs.Desks.{DeskState}
use Rattle.agree_core.specs.FileView.{FileView, Stays}
use Rattle.wire.specs.Layout.{IsMessage}
use Rattle.headline.specs.declared.version.FileVersion.{FileVersion}
use Rattle.headline.specs.declared.version.FileVersion.TheVariants.{Old}
use Rattle.headline.specs.Configurations.{Running, Down, Node, process_disk, process_votes}
use Rattle.headline.specs.DeskFaults.{LosesPower}
use Rattle.headline.specs.Migrations.{Migrates, ToNew}
use Rattle.live.specs.Desks.{DeskCall, DeskProcess, DeskStep, course_after, told_of}
use Rattle.live.specs.declared.ends.DeskEnd.TheVariants.{Device}
use Rattle.processes.specs.Printing.{Tells, greeting_of}
use Rattle.live.specs.Runs as own
use Rattle.processes.specs.Happenings.{DeskBegun, DeskCalled, DeskEnded, DeskGreeted, FileMigrated, Happening, PowerLost, begun, migrated}
use Rattle.live.specs.DeskLife.{BeginsOn, fresh}
use Rattle.processes.specs.Lives.{IsNextStage, CutOff, IsLife, CallsMade, RunsFrom, Stage, after_calls, after_life, after_stage, calls_of, life_happens, stage_happens}
use Rattle.processes.proofs.Local.{Goes, Local, goes-append}

module _ {Disk : Type 0} where
  -- a desk's node after something that happens there
  abbrev pub next_desk : Node Disk → Happening Disk → Node Disk
  next_desk x (DeskCalled c s call out l text) = record x { process = Running l }
  next_desk x (DeskEnded c disk) = record x { process = Down (process_votes x.process) disk }
  next_desk x (PowerLost c disk) = record x { process = Down (process_votes x.process) disk }
  next_desk x (DeskBegun c opening) = record x { process = begun (process_votes x.process) opening }
  next_desk x (FileMigrated c votes new) = migrated x new
  next_desk x _ = x

module _ {Disk : Type 0} (view : FileVersion → FileView Disk) (seen : Disk → List ℕ) (d : DeskId) (game innings : ℕ) where
  -- it may happen at this desk, whether or not its datagram was sent; and only messages are handed out
  abbrev pub MayDesk : Node Disk → Happening Disk → Type 0
  MayDesk x (DeskGreeted c s text) =
      (k : DeskState Disk) × (x.process ≡ Running k) × (text ≡ greeting_of s innings k)
  MayDesk x (DeskCalled c s call out l text) =
      (k : DeskState Disk) × (x.process ≡ Running k) × DeskStep s (view x.version) game innings k call out l
      × Tells s innings k call l text × All IsMessage out
  MayDesk x (DeskEnded c disk) =
      (k : DeskState Disk) × (x.process ≡ Running k) × Stays (view x.version) k.disk disk
  MayDesk x (PowerLost c disk) = LosesPower (view x.version) (process_disk x.process) disk
  MayDesk x (DeskBegun c opening) =
      (votes : List Ballot) × (disk : Disk) × (x.process ≡ Down votes disk)
      × BeginsOn (view x.version) seen innings d disk opening
  MayDesk x (FileMigrated c votes new) =
      (had : List Ballot) × (disk : Disk) × (x.process ≡ Down had disk) × (x.version ≡ Old)
      × Migrates view disk (ToNew votes new)
  MayDesk x _ = Unit {0}

  abbrev pub DeskLocal : Node Disk → List (Happening Disk) → Type 0
  DeskLocal = Local next_desk MayDesk

  abbrev pub DeskGoes : Node Disk → List (Happening Disk) → Node Disk → Type 0
  DeskGoes = Goes next_desk MayDesk

  module _ (faults : Disk → Faults) where
    calls : (x : Node Disk) (s : Sheet) (k : DeskState Disk) (ms : List (own.Moment (DeskProcess Disk) DeskCall)) → x.process ≡ Running k
        → RunsFrom s (view x.version) faults game innings k ms → DeskGoes x (calls_of innings d s k ms) (record x { process = after_calls k ms })
    calls x s k [] at r = ((tt, (k, at, refl)), λ i. record x { process = at i })
    calls x s k (m ∷ ms) at r =
        let before = calls x s k ms at (r.0, r.1, r.2.0) in
        let p : DeskProcess Disk = own.last_of (fresh k) ms in
        let last : DeskState Disk = (λ (p : DeskProcess Disk). p.desk) p in
        let this : Happening Disk = DeskCalled d s m.call m.out ((λ (p : DeskProcess Disk). p.desk) m.after) (told_of s innings p m.call m.after) in
        let may : MayDesk (record x { process = Running last }) this = (last, refl, r.2.2.1, (p, refl, r.2.2.4, ap (told_of s innings p m.call) r.2.2.3), r.2.1) in
        ((before.0, rw before.1 may), ap (λ (y : Node Disk). next_desk y this) before.1)

    -- a call whose disk failed prints nothing
    silent : (s : Sheet) (k l : DeskState Disk) (call : DeskCall) → course_after k call ≡ Err Device → Tells s innings k call l []
    silent s k l call e = (fresh k, refl, grind arith, grind arith)

    one_stage : (x : Node Disk) (stage : Stage Disk) → IsNextStage view seen faults d game innings x stage → DeskGoes x (stage_happens innings d stage) (after_stage x stage)
    one_stage x (CallsMade s k ms) h = calls x s k ms h.0 h.1
    one_stage x (CutOff s call l) h = ((tt, (h.0, h.1, h.3, silent s h.0 l call h.2, All-nil IsMessage)), refl)
    one_stage x _ h = ((tt, h), refl)

    pub desk_life : (x : Node Disk) (stages : List (Stage Disk)) → IsLife view seen faults d game innings x stages
        → DeskGoes x (life_happens innings d stages) (after_life x stages)
    desk_life x [] h = (tt, refl)
    desk_life x (stage ∷ stages) h =
        goes-append next_desk MayDesk x (after_life x stages) (after_life x (stage ∷ stages)) (stage_happens innings d stage) (life_happens innings d stages)
        (desk_life x stages h.0) (one_stage (after_life x stages) stage h.1)
