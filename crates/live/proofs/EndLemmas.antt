-- How a run of a desk's process ends, and what it blames its disk for.
use Rattle.std.proofs.Common.{arith, ◌≡◌, ℕ, List, [], ◌∷◌, Result, Ok, Err, false, refl, sym, ap, ◌∙◌}
use Rattle.std.specs.Prelude.{IsErrOf}
use Rattle.entry_log.specs.Blame.{BlamesDisk}
use Rattle.entry_log.specs.Disk.{Faults}
use Rattle.cards.specs.Sheet.{Sheet}
use Rattle.agree_core.specs.declared.{messages.Message.Message}
use Rattle.agree_core.specs.Desks.{DeskState}
use Rattle.agree_core.specs.FileView.{FileView}
use Rattle.live.specs.Ends.{Course, further}
use Rattle.live.specs.Runs.{Moment, Run, last_of}
use Rattle.live.specs.Desks.{DeskCall, DeskProcess, DeskStep, DiskView, Ended, course_after, desk_kind}
use Rattle.live.specs.declared.ends.DeskEnd.{DeskEnd}
use Rattle.live.proofs.DeskLemmas.{blameless}

module _ {Disk : Type 0} (sheet : Sheet) (view : FileView Disk) (game innings : ℕ) (k l : DeskState Disk) (out : List Message) (runs : k.failed ≡ false) where
  -- a call that doesn't end the process leaves its desk running
  pub runs_on : (call : DeskCall) → DeskStep sheet view game innings k call out l → course_after k call ≡ further → l.failed ≡ false
  runs_on call r e = grind arith

not_ended : (course : Course) → course ≡ further → IsErrOf course DeskEnd.Device → ⊥
not_ended course e f = cc (e, f)

module _ {Disk : Type 0} (sheet : Sheet) (view : FileView Disk) (disks : DiskView Disk) (game innings : ℕ) where
  -- what holds after moments of a process whose desk hadn't failed
  record Stands (p q : DeskProcess Disk) : Type 0 where
    blame : BlamesDisk DeskEnd.Device disks.FitsLongest q.course (disks.faults p.desk.disk) (disks.faults q.desk.disk)
    running : q.course ≡ further → q.desk.failed ≡ false

  stands : (p : DeskProcess Disk) (ms : List (Moment (DeskProcess Disk) DeskCall)) → p.course ≡ further → p.desk.failed ≡ false
      → Run (desk_kind sheet view disks game innings) p ms → Stands p (last_of p ms)
  stands p [] e f r = record { blame = blameless p.course _ _ (not_ended p.course e) refl; running = λ x. f }
  stands p (m ∷ ms) e f r =
      let q = last_of p ms in
      let so_far = stands p ms e f r.0 in
      let step = r.2 in
      let sound = so_far.running step.0 in
      let is : m.after.course ≡ course_after q.desk m.call = ap (λ (x : DeskProcess Disk). x.course) step.3 in
      record {
        blame = rw (← so_far.blame.same (not_ended q.course step.0), is) (step.2 sound);
        running = λ x. runs_on sheet view game innings q.desk m.after.desk m.out sound m.call step.1 (sym is ∙ x);
      }

  -- a run blames the disk if its last call does
  pub run_blames : (p q : DeskProcess Disk) (ms : List (Moment (DeskProcess Disk) DeskCall)) → p.course ≡ further → p.desk.failed ≡ false
      → Run (desk_kind sheet view disks game innings) p ms → last_of p ms ≡ q
      → BlamesDisk DeskEnd.Device disks.FitsLongest q.course (disks.faults p.desk.disk) (disks.faults q.desk.disk)
  run_blames p q ms e f r is = rw (← is) (stands p ms e f r).blame

-- the answer of a process blames the disk as its last call does
pub answer_blames : {Disk W : Type 0} (turns : ℕ) (result : Result (Unit {0}) DeskEnd) (last : DeskProcess Disk) (old new : Faults) → Ended turns result last
    → BlamesDisk DeskEnd.Device W last.course old new → BlamesDisk DeskEnd.Device W result old new
answer_blames turns (Ok done) last old new is b = blameless (Ok done) old new (λ q. (cc)) (b.same (not_ended last.course is.0))
answer_blames turns (Err DeskEnd.Write) last old new is b = blameless (Err DeskEnd.Write) old new (λ q. (cc)) (b.same is)
answer_blames turns result last old new is b = rw (← is) b
