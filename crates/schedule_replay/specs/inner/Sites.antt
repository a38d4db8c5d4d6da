-- The node of a site.
use Rattle.std.specs.Prelude.{◌≡◌, ◌⊎◌, ◌≤◌, ℕ, List, ◌++◌, length, Option, Some, None, Bool, true, false, Result, Ok, Err}
use Rattle.std.specs.Option.{is_none, is_some}
use Rattle.corrections.specs.declared.refusal.Refusal.{Refusal}
use Rattle.entry_log.specs.Disk.{Due, IsOnce, Never}
use Rattle.entry_log.specs.declared.mem_disk.MemDisk.{MemDisk}
use Rattle.entry_log.specs.MemDisk.{SetsPlan, cap_of, faults_of}
use Rattle.entry_log.specs.declared.mem_disk.plan.Plan.TheVariants.{Calm}
use Rattle.agree_core.specs.declared.messages.{DeskId.DeskId, Message.Message}
use Rattle.agree_core.specs.Ballots.{Ballot}
use Rattle.agree_core.specs.Desks.{DeskState}
use Rattle.agree_core.specs.FileView.{MaySync}
use Rattle.agree_core.specs.Openings.{Creates}
use Rattle.wire.specs.declared.datagram.Datagram.{Datagram}
use Rattle.desk.specs.declared.refusal.Refusal.{Refusal as DeskRefusal}
use Rattle.schedule_replay.specs.declared.{seen.Cause.Cause, seen.Seen.Seen, seen.WorldRefusal.WorldRefusal, site.Site.Site}
use Rattle.world_desks.specs.declared.world_desk.WorldDesk.{WorldDesk}
use Rattle.headline.specs.declared.{event.Event.Event, fault.Fault.Fault, version.FileVersion.FileVersion}
use Rattle.headline.specs.declared.fault.Fault.TheVariants.{Fail, Stop}
use Rattle.headline.specs.Configurations.{Process, Running, Down, Node, process_disk, with_disk}
use Rattle.headline.specs.Answers.{Answer}
use Rattle.headline.specs.DeskSteps.{AtDesk}
use Rattle.schedule_replay.specs.Refusals.{first_cause, may_grow}
use Rattle.headline.specs.Match.{match_of, most_bytes}
use Rattle.schedule_replay.specs.Plans.{StaysDue}
use Rattle.schedule_replay.specs.Answers.{AreBytesOf, answer_of, is_device}
use Rattle.world_desks.specs.WorldDesks.{IsWorldDeskOf, disk_of, state_of}

-- what is due on a disk, by the fault asked for
abbrev pub IsDue : Option Fault → Due → Type 0
IsDue None due = due ≡ Never
IsDue (Some Fail) due = IsOnce due
IsDue (Some Stop) due = Unit {0}

-- the disk has room for the largest file of its version, and no other fault is due than the one asked for
pub record IsWorldDisk (version : FileVersion) (due : Option Fault) (disk : MemDisk) : Type 0 where
  pub cap : cap_of disk ≡ most_bytes version
  pub faults : IsDue due (faults_of disk).due

-- the desk of this site, on such a disk
pub record IsWorldDesk (site : Site) (k : WorldDesk) : Type 0 where
  pub owner : IsWorldDeskOf site.name site.version site.game site.innings_a_side k
  pub on_disk : IsWorldDisk site.version site.due (disk_of k)

-- what runs at a site: its desk, or, if that is down, nothing but its disk; the site keeps the number of the votes then
abbrev pub IsProcess : Site → Option WorldDesk → Option MemDisk → Process MemDisk → Type 0
IsProcess site (Some k) disk p = IsWorldDesk site k × (disk ≡ None) × (p ≡ Running (state_of k))
IsProcess site None (Some disk) p =
    IsWorldDisk site.version site.due disk
    × ((ballots : List Ballot) × (length ballots ≡ site.votes) × (p ≡ Down ballots disk))
IsProcess site None None p = ⊥

-- the site has this node
pub record HasNode (site : Site) (x : Node MemDisk) : Type 0 where
  pub version : x.version ≡ site.version
  pub process : IsProcess site site.desk site.disk x.process
  pub due : x.due ≡ site.due

-- the site is of the same desk and match as before
pub record SameSite (old new : Site) : Type 0 where
  pub name : new.name ≡ old.name
  pub same_game : new.game ≡ old.game
  pub innings : new.innings_a_side ≡ old.innings_a_side

-- the site has either a desk or a disk, and one or two innings a side
abbrev pub IsWhole : Site → Type 0
IsWhole site =
    (is_some site.disk ≡ is_none site.desk) × ((1 ≤ site.innings_a_side) × (site.innings_a_side ≤ 2))

-- the site's desk was just created, on a file of this version
pub record BeginsSite (version : FileVersion) (name : DeskId) (game innings : ℕ) (site : Site) : Type 0 where
  pub same_name : site.name ≡ name
  pub same_version : site.version ≡ version
  pub same_game : site.game ≡ game
  pub same_innings : site.innings_a_side ≡ innings
  pub due : site.due ≡ None
  pub down : site.disk ≡ None
  pub whole : IsWhole site
  pub desk : (k : WorldDesk) × (site.desk ≡ Some k) × IsWorldDesk site k
      × Creates ((match_of game innings).view name version) name (state_of k)

-- An event at a desk is a step of the definitions: the outcome shows the answer, and the messages handed out are added to those
-- sent.
abbrev pub SiteSteps : Event → Site → List Datagram → Seen → Site → List Datagram → Type 0
SiteSteps event old sent seen new sent' =
    (x : Node MemDisk) (messages : List Message) → HasNode old x
    → AreBytesOf old.game sent messages
    → (y : Node MemDisk) × (out : List Message) × (answer : Answer Refusal)
    × (answer_of seen ≡ Some answer)
    × AtDesk (match_of old.game old.innings_a_side) messages old.name event x answer y out
    × HasNode new y × AreBytesOf old.game sent' (messages ++ out)

-- the desk's disk may be synced, and all else that the definitions see stays
abbrev pub SyncsSite : Site → Site → Type 0
SyncsSite old new =
    (x : Node MemDisk) → HasNode old x
    → (disk : MemDisk)
    × MaySync ((match_of old.game old.innings_a_side).view old.name x.version) (process_disk x.process) disk
    × HasNode new (record x { process = with_disk x.process disk })

-- the site after memory ran out
abbrev pub SiteLeft : Event → Site → Site → Type 0
SiteLeft (Event.Open d) old new = SyncsSite old new
SiteLeft (Event.Migrate d) old new = SyncsSite old new
SiteLeft _ old new = new ≡ old

-- the first cause against an event at a site
abbrev pub site_cause : Site → List Datagram → Event → Option WorldRefusal
site_cause site sent event = first_cause false (is_none site.desk) (length sent) event

-- An event at a desk is taken or refused. After a refusal all stays, apart from what running out of memory leaves.
abbrev pub SiteTakes :
    Event → Site → List Datagram → Result Seen WorldRefusal → Site → List Datagram → Type 0
SiteTakes event old sent (Ok seen) new sent' =
    (site_cause old sent event ≡ None) × SiteSteps event old sent seen new sent'
SiteTakes event old sent (Err why) new sent' =
    (sent' ≡ sent)
    × (((site_cause old sent event ≡ Some why) × (new ≡ old))
    ⊎ ((site_cause old sent event ≡ None) × (why ≡ WorldRefusal.NoMemory) × (may_grow event ≡ true)
    × SiteLeft event old new))

-- the disk of a desk, or the number of its votes, whether it runs or is down
abbrev pub disk_at : Option WorldDesk → Option MemDisk → Option MemDisk
disk_at (Some k) disk = Some (disk_of k)
disk_at None disk = disk

abbrev pub votes_at : Option WorldDesk → ℕ → ℕ
votes_at (Some k) votes = length ((λ (s : DeskState MemDisk). s.votes) (state_of k))
votes_at None votes = votes

-- a fault that stays due at the site is due at the same call
abbrev pub KeepsDue : Site → Site → Type 0
KeepsDue old new = StaysDue new.due (disk_at old.desk old.disk) (disk_at new.desk new.disk)

-- the desk is down: its disk stays, and no call of it is set to fail
pub record PutsDown (old new : Site) : Type 0 where
  pub disk : (before : MemDisk) × (after : MemDisk) × (disk_at old.desk old.disk ≡ Some before)
      × (new.disk ≡ Some after) × SetsPlan Calm before after
  pub counted : new.votes ≡ votes_at old.desk old.votes
  pub desk : new.desk ≡ None
  pub due : new.due ≡ old.due
  pub version : new.version ≡ old.version
  pub same : SameSite old new

-- a device call failed, and this cause is told; if the fault was a stop, the desk is down
abbrev pub BreaksDown : Option Fault → Cause → Site → Seen → Site → Type 0
BreaksDown (Some Stop) cause old seen new = (seen ≡ Seen.Stopped) × PutsDown (record old { due = None }) new
BreaksDown _ cause old seen new = (seen ≡ Seen.Refused cause) × (new ≡ record old { due = None })

-- the desk refused, and runs on unless a device call failed
abbrev pub RefusedBy : Bool → DeskRefusal → Site → Seen → Site → Type 0
RefusedBy true why old seen new = BreaksDown old.due (Cause.Desk why) old seen new
RefusedBy false why old seen new = (seen ≡ Seen.Refused (Cause.Desk why)) × (new ≡ old)

abbrev pub AfterRefusal : DeskRefusal → Site → Seen → Site → Type 0
AfterRefusal why old seen new = RefusedBy (is_device why) why old seen new

-- the votes of a desk that is down weren't found: memory ran out, its disk failed, or this cause is told
abbrev pub NotFoundBy : Bool → Bool → Cause → Site → Result Seen WorldRefusal → Site → Type 0
NotFoundBy true failing cause old result new = (result ≡ Err WorldRefusal.NoMemory) × (new ≡ old)
NotFoundBy false true cause old result new =
    (seen : Seen) × (result ≡ Ok seen) × BreaksDown old.due cause old seen new
NotFoundBy false false cause old result new = (result ≡ Ok (Seen.Refused cause)) × (new ≡ old)
