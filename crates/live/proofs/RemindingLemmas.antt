-- A reminder about the other desk comes once.
use Rattle.std.proofs.Common.{arith, subst, sym, ◌≡◌, ℕ, true, false, List, [], ◌∷◌, ap}
use Rattle.std.specs.Prelude.{All}
use Rattle.std.proofs.lemmas.List.Elements.{All-cons, All-head, All-nil, All-tail}
use Rattle.agree_core.specs.Desks.{DeskState}
use Rattle.agree_core.specs.FileView.{FileView}
use Rattle.cards.specs.Sheet.{Sheet}
use Rattle.live.specs.Desks.{DeskCall, DeskProcess, DiskView, MayCall, Reminded, desk_kind, warned_at}
use Rattle.live.specs.Reminding.{BringsNone, IsNot, RemindsOnce}
use Rattle.live.specs.Runs.{Moment, Run, last_of}
use Rattle.station_texts.specs.declared.{reminder.Reminder.Reminder, warned.Warned.Warned}
use Rattle.station_texts.specs.declared.reminder.Reminder.TheVariants.{HasWritten, IsHeard, IsMissed}

module _ {Disk : Type 0} (sheet : Sheet) (view : FileView Disk) (disks : DiskView Disk) (game innings : ℕ) where
  -- the process after these moments, none of which gives this reminder
  record Still (reminder : Reminder) (Stays : Warned → Type 0) (l : DeskProcess Disk) (ms : List (Moment (DeskProcess Disk) DeskCall)) : Type 0 where
    stays : Stays (last_of l ms).warned
    never : All (IsNot reminder) ms

  abbrev Ran : DeskProcess Disk → List (Moment (DeskProcess Disk) DeskCall) → Type 0
  Ran l ms = Run (desk_kind sheet view disks game innings) l ms

  -- a reminder is given only if it wasn't yet, and stays given through quiet moments
  once : (reminder : Reminder) (Stays : Warned → Type 0) (Quiet : Moment (DeskProcess Disk) DeskCall → Type 0)
      → ((k : DeskProcess Disk) → Stays k.warned → MayCall k (Reminded reminder) → ⊥)
      → ((k : DeskState Disk) (w : Warned) (m : Moment (DeskProcess Disk) DeskCall) → Quiet m → IsNot reminder m → Stays w → Stays (warned_at k w m.call))
      → (l : DeskProcess Disk) (ms : List (Moment (DeskProcess Disk) DeskCall)) → Stays l.warned → Ran l ms → All Quiet ms → Still reminder Stays l ms
  once reminder Stays Quiet told keeps l [] so run quiet = record { stays = so; never = All-nil (IsNot reminder) }
  once reminder Stays Quiet told keeps l (m ∷ ms) so run quiet =
      let k = last_of l ms in
      let before = once reminder Stays Quiet told keeps l ms so run.0 (All-tail Quiet m ms quiet) in
      let this : IsNot reminder m = λ e. told k before.stays (rw e at run.2.4) in
      let here = keeps k.desk k.warned m (All-head Quiet m ms quiet) this before.stays in
      record { stays = subst Stays (sym (ap (λ (p : DeskProcess Disk). p.warned) run.2.3)) here; never = All-cons (IsNot reminder) m ms this before.never }

pub reminds_once : {Disk : Type 0} (view : FileView Disk) (disks : DiskView Disk) → RemindsOnce view disks
reminds_once view disks = record {
  writing = λ sheet game innings k l out ms step run none.
      (once sheet view disks game innings HasWritten (λ (w : Warned). w.of_writing ≡ true) BringsNone (λ k stays may. cc (stays, may.2))
      (λ d w m news this stays. grind arith) l ms (ap (λ (p : DeskProcess _). p.warned.of_writing) step.3) run none).never;
  missed = λ sheet game innings k l out ms step run none.
      (once sheet view disks game innings IsMissed (λ (w : Warned). w.of_silence ≡ true) (IsNot IsHeard) (λ k stays may. cc (stays, may))
      (λ d w m other this stays. grind arith) l ms (ap (λ (p : DeskProcess _). p.warned.of_silence) step.3) run none).never;
  heard = λ sheet game innings k l out ms step run none.
      (once sheet view disks game innings IsHeard (λ (w : Warned). w.of_silence ≡ false) (IsNot IsMissed) (λ k stays may. cc (stays, may))
      (λ d w m other this stays. grind arith) l ms (ap (λ (p : DeskProcess _). p.warned.of_silence) step.3) run none).never;
  first = λ sheet game innings k ms none_told run none.
      (once sheet view disks game innings IsHeard (λ (w : Warned). w.of_silence ≡ false) (IsNot IsMissed) (λ k stays may. cc (stays, may))
      (λ d w m other this stays. grind arith) k ms (ap (λ (w : Warned). w.of_silence) none_told) run none).never;
}
