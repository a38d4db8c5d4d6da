-- A site and its desk, as the definitions of a run see them.
use Rattle.std.proofs.Common.{◌≡◌, ℕ, ◌+◌, ◌≤◌, ◌<◌, Option, Some, None, List, [], ◌++◌, length, map, refl, sym, ap, ◌∙◌, arith, append-nil}
use Rattle.std.proofs.lemmas.List.{length-map, map-append}
use Rattle.std.proofs.lemmas.List.Elements.{All-append}
use Rattle.std.specs.Prelude.{All, IsSome}
use Rattle.corrections.specs.declared.refusal.Refusal.{Refusal}
use Rattle.entry_log.specs.Disk.{IsOnce, Never}
use Rattle.entry_log.specs.Format.{contents, room}
use Rattle.entry_log.specs.MemDisk.{SetsPlan, call_count, cap_of, faults_of, file_of, images_of}
use Rattle.entry_log.specs.Plan.{due_of}
use Rattle.entry_log.specs.declared.mem_disk.{MemDisk.MemDisk, plan.Plan.Plan}
use Rattle.entry_log.specs.declared.mem_disk.plan.Plan.TheVariants.{Calm}
use Rattle.agree_core.specs.declared.messages.{DeskId.DeskId, Message.Message}
use Rattle.agree_core.specs.Desks.{most_votes}
use Rattle.agree_core.specs.FileView.{Stays}
use Rattle.vote_store.specs.View.{file_view}
use Rattle.desk.proofs.ViewLemmas.{stays}
use Rattle.wire.specs.declared.datagram.Datagram.{Datagram}
use Rattle.wire.specs.Layout.{IsMessage, written}
use Rattle.wire.specs.Sent.{AreSent}
use Rattle.headline.specs.declared.{fault.Fault.Fault, version.FileVersion.FileVersion}
use Rattle.headline.specs.declared.fault.Fault.TheVariants.{Fail, Stop}
use Rattle.schedule_replay.specs.declared.{seen.Cause.Cause, seen.Seen.Seen, site.Site.Site}
use Rattle.world_desks.specs.declared.world_desk.WorldDesk.{WorldDesk}
use Rattle.headline.specs.Configurations.{Process, Running, Down, Node, process_disk, process_votes}
use Rattle.headline.specs.Answers.{Answer}
use Rattle.headline.specs.DeskFaults.{Breaks, BreaksBy}
use Rattle.headline.specs.Match.{format_of, match_of, most_bytes}
use Rattle.schedule_replay.specs.Answers.{AreBytesOf, answer_of}
use Rattle.schedule_replay.specs.inner.Sites.{BreaksDown, IsDue, IsProcess, HasNode, IsWorldDisk, PutsDown, SameSite, disk_at, votes_at}
use Rattle.world_desks.specs.WorldDesks.{IsWorldDeskOf, SameOwner, disk_of, state_of}

-- a site whose desk runs
pub record Runs (site : Site) (k : WorldDesk) (x : Node MemDisk) : Type 0 where
  pub owner : IsWorldDeskOf site.name x.version site.game site.innings_a_side k
  pub on_disk : IsWorldDisk site.version site.due (disk_of k)
  pub process : x.process ≡ Running (state_of k)

pub running_is : (site : Site) (k : WorldDesk) (x : Node MemDisk) → site.desk ≡ Some k → HasNode site x → Runs site k x
running_is site k x here h = grind arith

-- the site with its desk after a call, with this fault due or none
pub runs_again : (site : Site) (k l : WorldDesk) (due : Option Fault) (x : Node MemDisk) → site.desk ≡ Some k → HasNode site x → SameOwner k l → IsDue due (faults_of (disk_of l)).due
    → HasNode (record site { desk = Some l; due = due }) (record x { process = Running (state_of l); due = due })
runs_again site k l due x here h o f = grind arith

-- after a call whose device didn't fail
pub runs_on : (site : Site) (k l : WorldDesk) (x : Node MemDisk) → site.desk ≡ Some k → HasNode site x → SameOwner k l → faults_of (disk_of l) ≡ faults_of (disk_of k)
    → HasNode (record site { desk = Some l }) (record x { process = Running (state_of l) })
runs_on site k l x here h o f = grind arith

-- the messages sent before, and the ones handed out now
pub more_bytes : (game : ℕ) (old new : List Datagram) (messages out : List Message) (bytes : List (List ℕ)) → AreBytesOf game old messages → All IsMessage out → bytes ≡ map (written game) out
    → map (λ (d : Datagram). d.bytes) new ≡ map (λ (d : Datagram). d.bytes) old ++ bytes → AreBytesOf game new (messages ++ out)
more_bytes game old new messages out bytes b all e n =
    grind (arith, All-append IsMessage messages out b.0 all, map-append (written game) messages out)

pub no_bytes : (game : ℕ) (sent : List Datagram) (messages : List Message) → AreBytesOf game sent messages → AreBytesOf game sent (messages ++ [])
no_bytes game sent messages b = rw append-nil b

-- the messages that a tick hands out
pub ticked : (game : ℕ) (Step : List Message → Type 0) (said out before after : List Datagram) (messages : List Message) → (sent : AreSent game (map (λ (d : Datagram). d.bytes) out) Step)
    → said ≡ out → after ≡ before ++ said → AreBytesOf game before messages → (length said ≡ length sent.0) × AreBytesOf game after (messages ++ sent.0)
ticked game Step said out before after messages sent is added b =
    let bytes = λ (d : Datagram). d.bytes in (
      grind (arith, length-map out bytes, length-map sent.0 (written game), ap length sent.2),
      more_bytes game before after messages sent.0 (map bytes out) b sent.1 sent.2 (rw (added, is) (map-append bytes before out)),
    )

-- a disk with the same bytes and images, and another plan of failing calls
pub sets_plan_stays : (name : DeskId) (version : FileVersion) (game : ℕ) (plan : Plan) (old new : MemDisk) → SetsPlan plan old new
    → Stays (file_view (contents (format_of version)) file_of images_of name game) old new
sets_plan_stays name version game plan old new h = stays (contents (format_of version)) file_of images_of name game old new h.file h.images

-- the disk and the votes of a site, whether its desk runs or is down
pub record HasDisk (site : Site) (p : Process MemDisk) : Type 0 where
  pub disk : disk_at site.desk site.disk ≡ Some (process_disk p)
  pub votes : votes_at site.desk site.votes ≡ length (process_votes p)
  pub cap : cap_of (process_disk p) ≡ most_bytes site.version

pub site_disk : (site : Site) (x : Node MemDisk) → HasNode site x → HasDisk site x.process
site_disk site x h = grind arith

-- a desk that is put down keeps its votes and its disk
pub put_down_is : (old new : Site) (p : Process MemDisk) → HasDisk old p → old.due ≡ None → PutsDown old new
    → (after : MemDisk) × (new.disk ≡ Some after) × SetsPlan Calm (process_disk p) after × IsProcess new new.desk new.disk (Down (process_votes p) after)
put_down_is old new p h due put =
    let d = put.disk in
    let same : d.0 ≡ process_disk p = grind (arith, h.disk, d.2) in
    (d.1, d.3, rw same at d.4, grind (arith, h, put, ap (due_of (call_count d.1)) (d.4).plan))

-- a device call failed by the fault that was due: the site goes on with this process, or its desk is down
pub broken : (old new : Site) (desk : Option WorldDesk) (disk : Option MemDisk) (before : MemDisk) (x : Node MemDisk) (p : Process MemDisk) (version : FileVersion)
    (By : Fault → Answer Refusal → Node MemDisk → Type 0) (cause : Cause) (seen : Seen) (due : Option Fault) → old.due ≡ due → HasNode old x → IsDue old.due (faults_of before).due
    → ((faults_of before).due ≡ Never → ⊥) → (IsOnce (faults_of before).due → HasNode (record old { desk = desk; disk = disk; due = None }) (record x { process = p; due = None }))
    → HasDisk (record old { desk = desk; disk = disk; due = None }) p → By Fail Answer.DeviceFailed (record x { process = p; due = None })
    → ((left : MemDisk) → Stays (file_view (contents (format_of version)) file_of images_of old.name old.game) (process_disk p) left
    → By Stop Answer.Stopped (record x { process = Down (process_votes p) left; due = None }))
    → answer_of (Seen.Refused cause) ≡ Some Answer.DeviceFailed → BreaksDown due cause (record old { desk = desk; disk = disk }) seen new
    → (y : Node MemDisk) × (answer : Answer Refusal) × (answer_of seen ≡ Some answer) × ((fault : Fault) × (x.due ≡ Some fault) × By fault answer y) × HasNode new y
broken old new desk disk before x p version By cause seen None d h due calm again has fails stops told b = absurd (calm (rw d at due))
broken old new desk disk before x p version By cause seen (Some Fail) d h due calm again has fails stops told b =
    (record x { process = p; due = None }, Answer.DeviceFailed, rw b.0 told, (Fail, h.due ∙ d, fails), rw b.1 (again (rw d at due)))
broken old new desk disk before x p version By cause seen (Some Stop) d h due calm again has fails stops told b =
    let put = b.1 in
    let down = put_down_is (record old { desk = desk; disk = disk; due = None }) new p has refl put in
    let y : Node MemDisk = record x { process = Down (process_votes p) down.0; due = None } in
    let is : HasNode new y = record { version = h.version ∙ sym put.version; process = down.3; due = sym put.due } in
    (y, Answer.Stopped, ap answer_of b.0, (Stop, h.due ∙ d, stops down.0 (sets_plan_stays old.name version old.game Calm (process_disk p) down.0 down.2)), is)

-- likewise at a running desk
pub broken_site : (old new : Site) (k l : WorldDesk) (x : Node MemDisk) (cause : Cause) (seen : Seen) → old.desk ≡ Some k → HasNode old x → SameOwner k l
    → ((faults_of (disk_of k)).due ≡ Never → ⊥) → (IsOnce (faults_of (disk_of k)).due → (faults_of (disk_of l)).due ≡ Never) → answer_of (Seen.Refused cause) ≡ Some Answer.DeviceFailed
    → BreaksDown old.due cause (record old { desk = Some l }) seen new
    → (y : Node MemDisk) × (answer : Answer Refusal) × (answer_of seen ≡ Some answer) × Breaks ((match_of old.game old.innings_a_side).view old.name x.version) x (state_of l) answer y × HasNode new y
broken_site old new k l x cause seen here h o calm spent told b =
    let r = running_is old k x here h in
    let disk = r.on_disk in
    broken old new (Some l) old.disk (disk_of k) x (Running (state_of l)) x.version (λ fault. BreaksBy ((match_of old.game old.innings_a_side).view old.name x.version) x fault (state_of l))
    cause seen old.due refl h disk.faults calm (λ once. runs_again old k l None x here h o (spent once))
    (record { disk = refl; votes = refl; cap = o.cap ∙ disk.cap }) (refl, refl) (λ left s. (left, refl, s, refl)) told b

-- after a failed device call the site is of the same match
pub broken_same : (due : Option Fault) (cause : Cause) (old new : Site) (desk : Option WorldDesk) (disk : Option MemDisk) (seen : Seen)
    → BreaksDown due cause (record old { desk = desk; disk = disk }) seen new → SameSite old new
broken_same due cause old new desk disk seen q = grind arith

-- the file has room for one vote more
pub has_room : (version : FileVersion) (n cap : ℕ) → n < most_votes → cap ≡ most_bytes version → room (format_of version) (n + 1) ≤ cap
has_room version n cap h e = grind arith

pub some_is : (o : Option WorldDesk) → IsSome o → (k : WorldDesk) × (o ≡ Some k)
some_is (Some k) h = (k, refl)
some_is None h = absurd (cc)
