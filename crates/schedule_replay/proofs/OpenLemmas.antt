-- Opening the file of a site whose desk is down is a step of the definitions.
use Rattle.std.proofs.Common.{arith, ◌≡◌, ℕ, Option, Some, None, List, [], length, refl, sym, ap, subst, inl, Result, Ok, Err}
use Rattle.std.specs.Option.{is_none, is_some}
use Rattle.std.specs.Bool.{⊤}
use Rattle.std.specs.Prelude.{IfOk, OnErr}
use Rattle.corrections.specs.declared.refusal.Refusal.{Refusal}
use Rattle.entry_log.specs.Blame.{BlamesDisk}
use Rattle.entry_log.specs.Disk.{IsOnce, Never}
use Rattle.entry_log.specs.MemDisk.{cap_of, faults_of}
use Rattle.entry_log.specs.declared.mem_disk.MemDisk.{MemDisk}
use Rattle.entry_log.specs.declared.refusal.Refusal.TheVariants as files
use Rattle.agree_core.specs.Ballots.{Ballot}
use Rattle.agree_core.specs.Books.{Rules}
use Rattle.agree_core.specs.Desks.{DeskState}
use Rattle.agree_core.specs.FileView.{FileView, MaySync}
use Rattle.agree_core.specs.Openings.{NotOpened, Opened, Opens}
use Rattle.agree_core.specs.Openings as openings
use Rattle.vote_store.specs.declared.refusal.Refusal.{Refusal as VotesRefusal}
use Rattle.wire.specs.declared.datagram.Datagram.{Datagram}
use Rattle.desk.specs.Answers.{device, open_cause}
use Rattle.desk.specs.declared.refusal.OpenRefusal.{OpenRefusal}
use Rattle.desk.specs.declared.refusal.OpenRefusal.TheVariants.{BadVotes, Votes}
use Rattle.headline.specs.declared.{event.Event.Event, fault.Fault.Fault, version.FileVersion.FileVersion}
use Rattle.schedule_replay.specs.declared.{seen.Cause.Cause, seen.Seen.Seen, seen.WorldRefusal.WorldRefusal, site.Site.Site}
use Rattle.world_desks.specs.declared.world_desk.WorldDesk.{WorldDesk}
use Rattle.headline.specs.Configurations.{Running, Down, Node, process_disk}
use Rattle.headline.specs.Answers.{Answer}
use Rattle.headline.specs.DeskFaults.{StaysDown, StaysDownBy}
use Rattle.headline.specs.DeskAnswers.{AfterOpen}
use Rattle.headline.specs.Match.{match_of}
use Rattle.headline.specs.Setting.{Setting}
use Rattle.schedule_replay.specs.Answers.{answer_of, is_failing, wants_memory}
use Rattle.schedule_replay.specs.inner.Sites.{BreaksDown, IsDue, HasNode, IsWorldDisk, NotFoundBy, SiteSteps, SyncsSite}
use Rattle.world_desks.specs.WorldDesks.{IsWorldDeskOf, disk_of, state_of}
use Rattle.schedule_replay.proofs.SiteLemmas.{HasDisk, broken, no_bytes}

-- a site whose desk is down
pub record IsDown (site : Site) (disk : MemDisk) (x : Node MemDisk) : Type 0 where
  pub votes : List Ballot
  pub many : length votes ≡ site.votes
  pub process : x.process ≡ Down votes disk
  pub on_disk : IsWorldDisk site.version site.due disk

pub down_at : (site : Site) (disk : MemDisk) (x : Node MemDisk) → site.desk ≡ None → site.disk ≡ Some disk → HasNode site x → IsDown site disk x
down_at site disk x down there h = grind arith

-- the desk stays down, with this disk
pub stays_down : (site : Site) (disk left : MemDisk) (due : Option Fault) (x : Node MemDisk) → site.desk ≡ None → HasNode site x → (d : IsDown site disk x) → cap_of left ≡ cap_of disk
    → IsDue due (faults_of left).due → HasNode (record site { disk = Some left; due = due }) (record x { process = Down d.votes left; due = due })
stays_down site disk left due x down h d cap faults = grind (arith, d.on_disk, d.many)

-- a device call failed at a desk that is down
pub broken_down : (old new : Site) (disk left : MemDisk) (x : Node MemDisk) (v : FileVersion) (cause : Cause) (seen : Seen) → old.desk ≡ None → HasNode old x → (d : IsDown old disk x)
    → cap_of left ≡ cap_of disk → ((faults_of disk).due ≡ Never → ⊥) → (IsOnce (faults_of disk).due → (faults_of left).due ≡ Never)
    → answer_of (Seen.Refused cause) ≡ Some Answer.DeviceFailed → BreaksDown old.due cause (record old { disk = Some left }) seen new
    → (y : Node MemDisk) × (answer : Answer Refusal) × (answer_of seen ≡ Some answer) × StaysDown ((match_of old.game old.innings_a_side).view old.name v) x d.votes left answer y × HasNode new y
broken_down old new disk left x v cause seen down h d cap calm spent told b =
    let has : HasDisk (record old { desk = old.desk; disk = Some left; due = None }) (Down d.votes left) = grind (arith, d.on_disk, d.many) in
    broken old new old.desk (Some left) disk x (Down d.votes left) v (λ fault. StaysDownBy ((match_of old.game old.innings_a_side).view old.name v) x fault d.votes left) cause seen old.due refl h
    d.on_disk.faults calm (λ once. stays_down old disk left None x down h d cap (spent once)) has (refl, refl) (λ lowered s. (lowered, refl, s, refl)) told b

-- the outcome of opening or migrating: a step of the definitions, or memory ran out
abbrev pub Outcome : Event → Site → Result Seen WorldRefusal → Site → Type 0
Outcome event old result new =
    IfOk result (λ seen. (sent : List Datagram) → SiteSteps event old sent seen new sent)
    × OnErr result ((result ≡ Err WorldRefusal.NoMemory) × SyncsSite old new)

abbrev pub ViewAt : Site → FileVersion → FileView MemDisk
ViewAt site version = (λ (s : Setting MemDisk Refusal). s.view site.name version) (match_of site.game site.innings_a_side)

abbrev pub RulesAt : Site → Rules Refusal
RulesAt site = (λ (s : Setting MemDisk Refusal). s.rules) (match_of site.game site.innings_a_side)

-- the desk is opened
pub opened : (old : Site) (l : WorldDesk) (disk : MemDisk) (left : Option MemDisk) (n : ℕ) (sent : List Datagram) → left ≡ None → old.desk ≡ None → old.disk ≡ Some disk
    → Opens (ViewAt old old.version) (RulesAt old) old.name disk (Opened (state_of l)) → IsWorldDeskOf old.name old.version old.game old.innings_a_side l → cap_of (disk_of l) ≡ cap_of disk
    → faults_of (disk_of l) ≡ faults_of disk → n ≡ length ((λ (s : DeskState MemDisk). s.book) (state_of l))
    → SiteSteps (Event.Open old.name) old sent (Seen.Opened n) (record old { desk = Some l; disk = left }) sent
opened old l disk left n sent none down there opens own cap faults many x messages h b =
    let d = down_at old disk x down there h in
    let y : Node MemDisk = record x { process = Running (state_of l) } in
    let is : HasNode (record old { desk = Some l; disk = left }) y = grind (arith, d.on_disk, own) in
    (y, [], Answer.Opened n, refl, (d.votes, disk, Opened (state_of l), d.process, rw h.version opens, (ap Answer.Opened many, refl), refl), is, no_bytes old.game sent messages b)

abbrev pub OpenBlame : MemDisk → OpenRefusal → MemDisk → Type 0
OpenBlame disk why left = BlamesDisk {T = WorldDesk} device ⊤ (Err why) (faults_of disk) (faults_of left)

-- a site that stays as it was
pub stays_so : (old : Site) → SyncsSite old old
stays_so old x h = (process_disk x.process, inl (refl, λ image. (λ i. i, λ i. i)), grind arith)

module _ (old new : Site) (disk left : MemDisk) (down : old.desk ≡ None) (there : old.disk ≡ Some disk) (cap : cap_of left ≡ cap_of disk) where
  -- the desk stays down, and the same fault stays due
  pub still_down : (x : Node MemDisk) → HasNode old x → (d : IsDown old disk x) → faults_of left ≡ faults_of disk → HasNode (record old { disk = Some left }) (record x { process = Down d.votes left })
  still_down x h d faults = grind (arith, stays_down old disk left old.due x down h d cap)

  -- the desk isn't opened, and its disk may have been synced
  pub syncs : MaySync (ViewAt old old.version) disk left → faults_of left ≡ faults_of disk → new ≡ record old { disk = Some left } → SyncsSite old new
  syncs may faults e x h =
      let d = down_at old disk x down there h in (left, rw (h.version, d.process) may, grind (arith, e, d.process, still_down x h d faults))

  module _ (result : Result Seen WorldRefusal) where
    -- the desk isn't opened because of what its file has
    not_sound : (why : OpenRefusal) (told : openings.OpenRefusal) (answer : Answer Refusal) → Opens (ViewAt old old.version) (RulesAt old) old.name disk (NotOpened told left)
        → ((x : Node MemDisk) (votes : List Ballot) → AfterOpen (ViewAt old x.version) x votes (NotOpened told left) answer (record x { process = Down votes left }))
        → faults_of left ≡ faults_of disk → answer_of (Seen.Refused (Cause.Open why)) ≡ Some answer
        → (result ≡ Ok (Seen.Refused (Cause.Open why))) × (new ≡ record old { disk = Some left }) → Outcome (Event.Open old.name) old result new
    not_sound why told answer opens after faults says (r, e) = rw r (
      λ sent x messages h b.
          let d = down_at old disk x down there h in
          let now = subst (λ (v : FileVersion). Opens (ViewAt old v) (RulesAt old) old.name disk (NotOpened told left)) (sym h.version) opens in
          (record x { process = Down d.votes left }, [], answer, says, (d.votes, disk, NotOpened told left, d.process, now, after x d.votes, refl), rw e (still_down x h d faults), no_bytes old.game sent messages b),
      tt,
    )

    failing : MaySync (ViewAt old old.version) disk left → OpenBlame disk device left
        → (seen : Seen) × (result ≡ Ok seen) × BreaksDown old.due (Cause.Open device) (record old { disk = Some left }) seen new → Outcome (Event.Open old.name) old result new
    failing may blame (seen, r, broke) = rw r (
      λ sent x messages h b.
          let d = down_at old disk x down there h in
          let broken = broken_down old new disk left x x.version (Cause.Open device) seen down h d cap (λ n. blame.calm n tt refl) (λ o. blame.spent o tt refl) refl broke in
          (broken.0, [], broken.1, broken.2, (d.votes, disk, NotOpened openings.OpenRefusal.DeviceFailed left, d.process, rw h.version may, broken.3, refl), broken.4, no_bytes old.game sent messages b),
      tt,
    )

    -- the votes file was refused
    pub not_found : (why : VotesRefusal) → Opens (ViewAt old old.version) (RulesAt old) old.name disk (NotOpened (open_cause (Votes why)) left) → OpenBlame disk (Votes why) left
        → NotFoundBy (wants_memory why) (is_failing why) (Cause.Open (Votes why)) (record old { disk = Some left }) result new → Outcome (Event.Open old.name) old result new
    not_found VotesRefusal.NoMemory o blame n = rw n.0 (tt, (refl, syncs o (blame.same (λ q. (cc))) n.1))
    not_found (VotesRefusal.File files.Device) o blame n = failing o blame n
    not_found why o blame n = not_sound (Votes why) openings.OpenRefusal.Unsound Answer.Unsound o (λ x v. (refl, refl)) (blame.same (λ q. (cc))) refl n

    -- the votes make no book
    pub bad_votes : (place : ℕ) → Opens (ViewAt old old.version) (RulesAt old) old.name disk (NotOpened (openings.OpenRefusal.BadVotes place) left) → OpenBlame disk (BadVotes place) left
        → (result ≡ Ok (Seen.Refused (Cause.Open (BadVotes place)))) × (new ≡ record old { disk = Some left }) → Outcome (Event.Open old.name) old result new
    bad_votes place o blame n =
        not_sound (BadVotes place) (openings.OpenRefusal.BadVotes place) Answer.NoBook o (λ x v. (refl, refl)) (blame.same (λ q. (cc))) refl n

-- a whole site has a disk if its desk is down
pub some_disk : (desk : Option WorldDesk) (disk : Option MemDisk) → is_some disk ≡ is_none desk → desk ≡ None → (d : MemDisk) × (disk ≡ Some d)
some_disk (Some k) disk w e = absurd (cc)
some_disk None (Some d) w e = (d, refl)
some_disk None None w e = absurd (cc)
