-- Migrating the file of a site whose desk is down is a step of the definitions.
use Rattle.std.proofs.Common.{◌≡◌, ◌≢◌, ◌⊎◌, ◌<◌, ◌≤◌, ℕ, Some, None, List, [], length, refl, sym, ap, ◌∙◌, subst, inl, inr, arith, Result, Ok, Err}
use Rattle.std.specs.Prelude.{IsErrOf}
use Rattle.corrections.specs.declared.refusal.Refusal.{Refusal}
use Rattle.entry_log.specs.Disk.{IsOnce, only}
use Rattle.entry_log.specs.Format.{contents, room}
use Rattle.entry_log.specs.Version1.{version_1}
use Rattle.entry_log.specs.Version2.{version_2}
use Rattle.entry_log.specs.declared.{slot.TheConstants.MAX_SLOTS, mem_disk.MemDisk.MemDisk}
use Rattle.entry_log.specs.MemDisk.{IsFresh, SetsPlan, call_count, cap_of, faults_of, file_of, images_of, plan_of}
use Rattle.entry_log.specs.Plan.{due_of}
use Rattle.entry_log.specs.declared.mem_disk.plan.Plan.TheVariants.{Calm}
use Rattle.entry_log.specs.declared.refusal.Refusal.TheVariants as files
use Rattle.agree_core.specs.Ballots.{desk_number}
use Rattle.agree_core.specs.FileView.{Holds, MaySync}
use Rattle.desk.proofs.ViewLemmas.{may_sync}
use Rattle.vote_store.specs.declared.{migration.Migrated.Migrated, refusal.Refusal.Refusal as VotesRefusal}
use Rattle.vote_store.specs.Migrated.{BlamesEither, HasFailed, IsMigrated, old_votes}
use Rattle.vote_store.specs.Refusal.{device, not_empty}
use Rattle.vote_store.specs.Sequence.{file_votes, or_none}
use Rattle.vote_store.specs.View.{file_view, votes_shown, where_sound}
use Rattle.wire.specs.declared.datagram.Datagram.{Datagram}
use Rattle.headline.specs.declared.{event.Event.Event, version.FileVersion.FileVersion}
use Rattle.schedule_replay.specs.declared.{seen.Cause.Cause, seen.Seen.Seen, seen.WorldRefusal.WorldRefusal, site.Site.Site}
use Rattle.headline.specs.Configurations.{Down, Node}
use Rattle.headline.specs.Answers.{Answer}
use Rattle.headline.specs.Migrations.{Failed, MigratesAt, NotSound, ToNew}
use Rattle.headline.specs.Match.{format_of, most_bytes}
use Rattle.schedule_replay.specs.Answers.{answer_of, is_failing, wants_memory}
use Rattle.schedule_replay.specs.inner.Sites.{BreaksDown, HasNode, IsWorldDisk, NotFoundBy, SiteSteps}
use Rattle.schedule_replay.proofs.SiteLemmas.{no_bytes}
use Rattle.schedule_replay.proofs.OpenLemmas.{IsDown, Outcome, ViewAt, broken_down, down_at, still_down, syncs}

-- a migration by the definitions, of a file of this version, is a step at a site whose desk is down and whose file has that
-- version
migrates : (old new : Site) (disk : MemDisk) (version : FileVersion) (seen : Seen) (sent : List Datagram) → old.version ≡ version → old.desk ≡ None → old.disk ≡ Some disk
    → ((x : Node MemDisk) → HasNode old x → (d : IsDown old disk x) → (y : Node MemDisk) × (answer : Answer Refusal) × (answer_of seen ≡ Some answer)
    × MigratesAt (ViewAt old) x version d.votes disk answer y × HasNode new y) → SiteSteps (Event.Migrate old.name) old sent seen new sent
migrates old new disk version seen sent is down there made x messages h b =
    let d = down_at old disk x down there h in
    let m = made x h d in
    let at = subst (λ (v : FileVersion). MigratesAt (ViewAt old) x v d.votes disk m.1 m.0) (sym (h.version ∙ is)) m.3 in
    (m.0, [], m.1, m.2, (d.votes, disk, d.process, at, refl), m.4, no_bytes old.game sent messages b)

-- a file of the new version isn't migrated
pub of_new : (old : Site) (disk : MemDisk) (sent : List Datagram) → old.version ≡ FileVersion.New → old.desk ≡ None → old.disk ≡ Some disk
    → SiteSteps (Event.Migrate old.name) old sent (Seen.Refused (Cause.Migrate (VotesRefusal.File files.Version))) old sent
of_new old disk sent new down there =
    migrates old old disk FileVersion.New (Seen.Refused (Cause.Migrate (VotesRefusal.File files.Version))) sent new down there (λ x h d. (x, Answer.OtherVersion, refl, (refl, refl), h))

-- the disks of a migration: a fresh one, the old one without its plan, and the new one with it
pub record IsMoved (old : Site) (disk moved fresh new : MemDisk) : Type 0 where
  pub fresh_is : IsFresh [] (most_bytes FileVersion.New) fresh
  pub here : SetsPlan Calm disk moved
  pub there : SetsPlan (plan_of disk) fresh new
  pub due : (faults_of new).due ≡ (faults_of disk).due

-- the file is migrated
pub migrated : (old : Site) (disk moved fresh begun made : MemDisk) (n : ℕ) (sent : List Datagram) → old.version ≡ FileVersion.Old → old.desk ≡ None → old.disk ≡ Some disk
    → IsMoved old disk moved fresh begun → IsMigrated (desk_number old.name) old.game (file_of moved) (images_of made) n
    → Holds (file_view (contents version_2) file_of images_of old.name old.game) made (old_votes (desk_number old.name) old.game (file_of moved)) → cap_of made ≡ cap_of begun
    → faults_of made ≡ faults_of begun → SiteSteps (Event.Migrate old.name) old sent (Seen.Migrated n) (record old { version = FileVersion.New; disk = Some made }) sent
migrated old disk moved fresh begun made n sent version down there m is holds cap faults =
    let begins = m.there in
    let empty = m.fresh_is in
    let found : votes_shown (contents version_1) old.name old.game (file_of disk) ≡ Some is.votes = rw (← m.here.file) (ap where_sound is.found) in
    let held : Holds (ViewAt old FileVersion.New) made is.votes = rw (ap or_none is.found) at holds in
    let new : Site = record old { version = FileVersion.New; disk = Some made } in
    migrates old new disk FileVersion.Old (Seen.Migrated n) sent version down there (λ x h d.
    let on = d.on_disk in
    let on_made : IsWorldDisk FileVersion.New old.due made = grind (arith, m.due, begins.cap, empty.cap, on) in
    let site : HasNode new (record x { version = FileVersion.New; process = Down d.votes made }) = grind (arith, on_made, d.many, h.due) in
    (record x { version = FileVersion.New; process = Down d.votes made }, Answer.Migrated n, refl, (ToNew is.votes made, (found, held), (ap Answer.Migrated is.many, refl)), site))

-- the old disk after a failed migration
pub record IsReturned (old : Site) (disk moved begun left new last : MemDisk) (why : VotesRefusal) : Type 0 where
  pub seen : file_of left ≡ file_of moved
  pub images : (images_of left ≡ images_of moved) ⊎ (images_of left ≡ only (file_of moved))
  pub cap : cap_of left ≡ cap_of moved
  pub blame : BlamesEither {T = Migrated MemDisk MemDisk} (room version_2 MAX_SLOTS ≤ cap_of begun) (Err why) (faults_of moved) (faults_of begun) (faults_of left) (faults_of new)
  pub back : SetsPlan (plan_of new) left last
  pub due : (faults_of last).due ≡ (faults_of new).due

-- why the file isn't migrated
abbrev pub RefusedFor : Site → MemDisk → MemDisk → VotesRefusal → Type 0
RefusedFor old moved begun why =
    (IsErrOf {T = Migrated MemDisk MemDisk} (Err why) not_empty → 0 < length (file_of begun))
    × ((why ≡ device) ⊎ ((why ≡ VotesRefusal.NoMemory) ⊎ ((why ≡ not_empty) ⊎ (file_votes (contents version_1) (desk_number old.name) old.game (file_of moved) ≡ Err why))))

module _ (old : Site) (disk moved fresh begun left made last : MemDisk) (m : IsMoved old disk moved fresh begun) where
  -- the old disk may have been synced, and has its old cap
  returned : (why : VotesRefusal) → IsReturned old disk moved begun left made last why → ((version : FileVersion) → MaySync (ViewAt old version) disk last) × (cap_of last ≡ cap_of disk)
  returned why r = (
    λ version. may_sync (contents (format_of version)) file_of images_of old.name old.game disk last (grind (arith, m.here, r.back)) (grind (arith, m.here, r.back, r.images)),
    r.back.cap ∙ r.cap ∙ m.here.cap,
  )

  -- the new disk was empty, so the old file is at fault
  fault_of : (why : VotesRefusal) → why ≢ device → why ≢ VotesRefusal.NoMemory → RefusedFor old moved begun why
      → file_votes (contents version_1) (desk_number old.name) old.game (file_of moved) ≡ Err why
  fault_of why n k f = grind (arith, ap length (m.there.file ∙ m.fresh_is.file))

  -- unless a device call failed, the disk's faults are as before
  calm_faults : (why : VotesRefusal) → IsReturned old disk moved begun left made last why → why ≢ device → faults_of last ≡ faults_of disk
  calm_faults why r n = grind (arith, m.here, r.back, r.blame.same (λ q. n (cc)))

  module _ (new : Site) (result : Result Seen WorldRefusal) (version : old.version ≡ FileVersion.Old) (down : old.desk ≡ None) (there : old.disk ≡ Some disk) where
    failing : IsReturned old disk moved begun left made last device → (seen : Seen) × (result ≡ Ok seen) × BreaksDown old.due (Cause.Migrate device) (record old { disk = Some last }) seen new
        → Outcome (Event.Migrate old.name) old result new
    failing r (seen, is, broke) =
        let l = returned device r in
        let within : room version_2 MAX_SLOTS ≤ cap_of begun = let e : cap_of begun ≡ 1048641 = m.there.cap ∙ m.fresh_is.cap in omega arith in
        let failed : HasFailed (room version_2 MAX_SLOTS ≤ cap_of begun) (faults_of begun) (faults_of made) = elim (r.blame.failed refl) [
          | inl f ↦ absurd (f.0.calm (ap (due_of (call_count moved)) m.here.plan) tt)
          | inr f ↦ f.1
        ] in
        let spent = λ (o : IsOnce (faults_of disk).due). r.due ∙ failed.spent (subst IsOnce (sym m.due) o) within in
        rw is (
          λ sent. migrates old new disk FileVersion.Old seen sent version down there (λ x h d.
              let broken = broken_down old new disk last x FileVersion.Old (Cause.Migrate device) seen down h d l.1 (λ n. failed.calm (m.due ∙ n) within) spent refl broke in
              (broken.0, broken.1, broken.2, (Failed last, l.0 FileVersion.Old, broken.3), broken.4)),
          tt,
        )

    -- the old file isn't sound
    faulty : (why : VotesRefusal) (answer : Answer Refusal) → IsReturned old disk moved begun left made last why → why ≢ device
        → file_votes (contents version_1) (desk_number old.name) old.game (file_of moved) ≡ Err why → answer_of (Seen.Refused (Cause.Migrate why)) ≡ Some answer
        → (answer ≡ Answer.Unsound) ⊎ (answer ≡ Answer.OtherVersion) → (result ≡ Ok (Seen.Refused (Cause.Migrate why))) × (new ≡ record old { disk = Some last })
        → Outcome (Event.Migrate old.name) old result new
    faulty why answer r n fault says which (is, e) =
        let l = returned why r in
        let none : votes_shown (contents version_1) old.name old.game (file_of disk) ≡ None = rw (← m.here.file) (ap where_sound fault) in
        rw is (
          λ sent. migrates old new disk FileVersion.Old (Seen.Refused (Cause.Migrate why)) sent version down there (λ x h d.
              let site : HasNode new (record x { process = Down d.votes last }) = rw e (still_down old new disk last down there l.1 x h d (calm_faults why r n)) in
              (record x { process = Down d.votes last }, answer, says, (NotSound last, (none, l.0 FileVersion.Old), (which, refl)), site)),
          tt,
        )

    pub not_migrated : (why : VotesRefusal) → IsReturned old disk moved begun left made last why → RefusedFor old moved begun why
        → NotFoundBy (wants_memory why) (is_failing why) (Cause.Migrate why) (record old { disk = Some last }) result new → Outcome (Event.Migrate old.name) old result new
    not_migrated VotesRefusal.NoMemory r f n =
        let l = returned VotesRefusal.NoMemory r in rw n.0 (tt, (refl, syncs old new disk last down there l.1 (l.0 old.version) (calm_faults VotesRefusal.NoMemory r (λ q. (cc))) n.1))
    not_migrated (VotesRefusal.File files.Device) r f n = failing r n
    not_migrated (VotesRefusal.File files.Version) r f n = faulty (VotesRefusal.File files.Version) Answer.OtherVersion r (λ q. (cc)) (fault_of _ (λ q. (cc)) (λ q. (cc)) f) refl (inr refl) n
    not_migrated why r f n = faulty why Answer.Unsound r (λ q. (cc)) (fault_of why (λ q. (cc)) (λ q. (cc)) f) refl (inl refl) n
