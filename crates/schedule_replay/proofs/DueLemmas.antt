-- A fault that stays due at a site stays due at the same disk call.
use Rattle.std.proofs.Common.{arith, ◌≡◌, ◌∙◌, Bool, false, true≢false, Option, Some, None, refl, sym, ap, Result}
use Rattle.std.specs.Prelude.{OnOk}
use Rattle.entry_log.specs.MemDisk.{faults_of}
use Rattle.entry_log.specs.declared.{mem_disk.MemDisk.MemDisk, refusal.Refusal.Refusal}
use Rattle.desk.specs.declared.refusal.Refusal.{Refusal as DeskRefusal}
use Rattle.vote_store.specs.declared.refusal.Refusal.{Refusal as VotesRefusal}
use Rattle.headline.specs.declared.fault.Fault.{Fault}
use Rattle.schedule_replay.specs.declared.{seen.Cause.Cause, seen.Seen.Seen, seen.WorldRefusal.WorldRefusal, site.Site.Site}
use Rattle.world_desks.specs.declared.world_desk.WorldDesk.{WorldDesk}
use Rattle.schedule_replay.specs.Answers.{is_failing}
use Rattle.schedule_replay.specs.inner.Sites.{AfterRefusal, BreaksDown, KeepsDue, NotFoundBy, SameSite}
use Rattle.world_desks.specs.WorldDesks.{disk_of}
use Rattle.schedule_replay.proofs.SiteLemmas.{broken_same}

-- a running desk
pub keeps_running : (old : Site) (k l : WorldDesk) → old.desk ≡ Some k → faults_of (disk_of l) ≡ faults_of (disk_of k) → KeepsDue old (record old { desk = Some l })
keeps_running old k l here e fault due = rw (here, ap (λ z. z.due) e) refl

-- a desk that is down
pub keeps_down : (old : Site) (disk left : MemDisk) → old.desk ≡ None → old.disk ≡ Some disk → (faults_of left).due ≡ (faults_of disk).due → KeepsDue old (record old { disk = Some left })
keeps_down old disk left down there e fault due = rw (down, there, e) refl

-- no fault is due
pub keeps_none : (old new : Site) → new.due ≡ None → KeepsDue old new
keeps_none old new none fault due = absurd (cc)

pub breaks_none : (due : Option Fault) (cause : Cause) (mid : Site) (seen : Seen) (new : Site) → BreaksDown due cause mid seen new → new.due ≡ None
breaks_none due cause mid seen new b = grind arith

pub keeps_refused : (why : DeskRefusal) (old new : Site) (k l : WorldDesk) (seen : Seen) → old.desk ≡ Some k
    → ((why ≡ DeskRefusal.Device → ⊥) → faults_of (disk_of l) ≡ faults_of (disk_of k)) → AfterRefusal why (record old { desk = Some l }) seen new → KeepsDue old new
keeps_refused why old new k l seen here same r = grind (arith, here, same)

-- the votes of a desk that is down weren't found: a due fault stays due, and the site is of the same match
pub keeps_not_found : (memory failing : Bool) (cause : Cause) (old new : Site) (disk : Option MemDisk) (result : Result Seen WorldRefusal)
    → (failing ≡ false → KeepsDue old (record old { disk = disk })) → NotFoundBy memory failing cause (record old { disk = disk }) result new
    → OnOk result (KeepsDue old new) × SameSite old new
keeps_not_found memory failing cause old new disk result f n =
    let none = λ (seen : Seen). breaks_none old.due cause (record old { disk = disk }) seen new in
    let same = λ (seen : Seen). broken_same old.due cause old new old.desk disk seen in
    (grind (arith, f, keeps_none old new, none), grind (arith, same))

pub no_failure : (why : VotesRefusal) → is_failing why ≡ false → why ≡ VotesRefusal.File Refusal.Device → ⊥
no_failure why n e = true≢false (sym (ap is_failing e) ∙ n)
