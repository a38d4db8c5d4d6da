-- At a site a tick, an end, a fault and an opening are steps of the definitions.
use Rattle.std.proofs.Common.{arith, ◌≡◌, ℕ, Some, None, List, [], ◌++◌, length, map, refl, sym, ap, ◌∙◌, subst}
use Rattle.entry_log.specs.Disk.{Images, IsImage, only}
use Rattle.entry_log.proofs.Running.{each_image}
use Rattle.entry_log.specs.Format.{contents}
use Rattle.entry_log.specs.MemDisk.{SetsPlan, call_count, cap_of, file_of, images_of, plan_of}
use Rattle.entry_log.specs.Plan.{due_of}
use Rattle.entry_log.specs.declared.mem_disk.{MemDisk.MemDisk, choice.Choice.Choice, plan.Plan.Plan}
use Rattle.entry_log.specs.declared.mem_disk.plan.Plan.TheVariants.{Calm}
use Rattle.agree_core.specs.declared.messages.Message.{Message}
use Rattle.agree_core.specs.Desks.{Ticks}
use Rattle.wire.specs.declared.datagram.Datagram.{Datagram}
use Rattle.wire.specs.Sent.{AreSent}
use Rattle.headline.specs.declared.{event.Event.Event, event.Station.Station, fault.Fault.Fault}
use Rattle.schedule_replay.specs.declared.{seen.Seen.Seen, site.Site.Site}
use Rattle.world_desks.specs.declared.world_desk.WorldDesk.{WorldDesk}
use Rattle.headline.specs.Configurations.{Running, Down, Node, process_disk, process_votes}
use Rattle.headline.specs.Answers.{Answer}
use Rattle.headline.specs.DeskFaults.{FallsDue, LosesPower}
use Rattle.headline.specs.DeskSteps.{AtDesk}
use Rattle.headline.specs.Match.{format_of, match_of}
use Rattle.schedule_replay.proofs.OpenLemmas.{down_at, stays_down}
use Rattle.schedule_replay.specs.inner.Sites.{HasNode, IsDue, PutsDown, SiteSteps}
use Rattle.world_desks.specs.WorldDesks.{SameOwner, disk_of, game_of, state_of}
use Rattle.schedule_replay.proofs.SiteLemmas.{HasDisk, no_bytes, put_down_is, running_is, runs_again, sets_plan_stays, site_disk, ticked}

-- the messages that a desk's tick hands out
pub ticks : (site : Site) (k : WorldDesk) (t : Station) (said out before after : List Datagram) → site.desk ≡ Some k → AreSent (game_of k) (map (λ (d : Datagram). d.bytes) out) (Ticks (state_of k))
    → said ≡ out → after ≡ before ++ said → SiteSteps (Event.Tick t) site before (Seen.Ticked (length said)) site after
ticks site k t said out before after here sent is added x messages h b =
    let r = running_is site k x here h in
    let s = rw r.owner.same_game at sent in
    let z = ticked site.game (Ticks (state_of k)) said out before after messages s is added b in
    (x, s.0, Answer.Ticked (length said), refl, (state_of k, r.process, s.3, ap Answer.Ticked z.0, refl), h, z.1)

calm_disk : (site : Site) (x : Node MemDisk) → HasNode site x → HasDisk (record site { due = None }) x.process
calm_disk site x h = grind (arith, site_disk site x h)

-- the desk's process ends
pub kills : (old new : Site) (k : WorldDesk) (sent : List Datagram) → old.desk ≡ Some k → PutsDown (record old { due = None }) new → SiteSteps (Event.Kill old.name) old sent Seen.Done new sent
kills old new k sent here put x messages h b =
    let r = running_is old k x here h in
    let down = put_down_is (record old { due = None }) new x.process (calm_disk old x h) refl put in
    let y : Node MemDisk = record x { process = Down (process_votes x.process) down.0; due = None } in
    let is : HasNode new y = record { version = h.version ∙ sym put.version; process = down.3; due = sym put.due } in
    let stays = sets_plan_stays old.name x.version old.game Calm (process_disk x.process) down.0 down.2 in
    (y, [], Answer.Done, refl, (state_of k, r.process, (down.0, stays, refl), refl, refl), is, no_bytes old.game sent messages b)

-- the desk loses power: its new disk is an image of the old one
pub powers : (old mid new : Site) (choice : Choice) (there left : MemDisk) (sent : List Datagram) → PutsDown (record old { due = None }) mid → mid.disk ≡ Some there
    → IsImage (images_of there) (file_of left) → images_of left ≡ only (file_of left) → cap_of left ≡ cap_of there → plan_of left ≡ Calm
    → new ≡ record mid { disk = Some left } → SiteSteps (Event.Power old.name choice) old sent Seen.Done new sent
powers old mid new choice there left sent put at image images cap calm is x messages h b =
    let d = calm_disk old x h in
    let down = put_down_is (record old { due = None }) mid x.process d refl put in
    let same_disk : down.0 ≡ there = let z = sym at ∙ down.1 in cc in
    let plan : SetsPlan Calm (process_disk x.process) there = rw same_disk at down.2 in
    let y : Node MemDisk = record x { process = Down (process_votes x.process) left; due = None } in
    let site : HasNode new y = grind (arith, is, put, put.due, cap, ap (due_of (call_count left)) calm, d.votes, d.cap) in
    let shows = Rattle.vote_store.specs.View.votes_shown (contents (format_of x.version)) old.name old.game in
    let loses : LosesPower ((match_of old.game old.innings_a_side).view old.name x.version) (process_disk x.process) left = (
      (file_of left, subst (λ (z : Images). IsImage z (file_of left)) plan.images image, refl),
      λ shown i. sym i.2 ∙ ap shows (each_image (images_of left) (file_of left) i.0 images i.1),
    ) in
    (y, [], Answer.Done, refl, (left, loses, refl, refl, refl), site, no_bytes old.game sent messages b)

-- an event that makes this fault due at the desk
module _ (old : Site) (fault : Fault) (plan : Plan) (event : Event)
    (step : (x y : Node MemDisk) (messages : List Message) → FallsDue ((match_of old.game old.innings_a_side).view old.name x.version) fault x y
    → AtDesk (match_of old.game old.innings_a_side) messages old.name event x Answer.Done y [])
    (due : (calls : ℕ) → IsDue (Some fault) (due_of calls plan)) (sent : List Datagram) where
  -- the desk runs
  pub falls_running : (k l : WorldDesk) → old.desk ≡ Some k → SetsPlan plan (disk_of k) (disk_of l) → state_of l ≡ record (state_of k) { disk = disk_of l } → SameOwner k l
      → SiteSteps event old sent Seen.Done (record old { desk = Some l; due = Some fault }) sent
  falls_running k l here sets state owner x messages h b =
      let r = running_is old k x here h in
      let y : Node MemDisk = record x { process = Running (state_of l); due = Some fault } in
      let falls = step x y messages (disk_of l, rw r.process (sets_plan_stays old.name x.version old.game plan (disk_of k) (disk_of l) sets), grind (arith, state, r.process)) in
      (y, [], Answer.Done, refl, falls, runs_again old k l (Some fault) x here h owner (rw sets.plan (due (call_count (disk_of l)))), no_bytes old.game sent messages b)

  -- the desk is down
  pub falls_down : (disk left : MemDisk) → old.desk ≡ None → old.disk ≡ Some disk → SetsPlan plan disk left
      → SiteSteps event old sent Seen.Done (record old { disk = Some left; due = Some fault }) sent
  falls_down disk left down there sets x messages h b =
      let d = down_at old disk x down there h in
      let y : Node MemDisk = record x { process = Down d.votes left; due = Some fault } in
      let falls = step x y messages (left, rw d.process (sets_plan_stays old.name x.version old.game plan disk left sets), grind (arith, d.process)) in
      (y, [], Answer.Done, refl, falls, stays_down old disk left (Some fault) x down h d sets.cap (rw sets.plan (due (call_count left))), no_bytes old.game sent messages b)
