-- What happens at a site is a step of the world.
use Rattle.std.proofs.Common.{arith, ◌≡◌, ℕ, false, Some, List, [], ◌++◌, length, refl, sym, ap, ◌∙◌, inl, inr, Result, Ok, Err, append-nil}
use Rattle.std.specs.Prelude.{IfErr, IfOk, OnOk}
use Rattle.std.proofs.lemmas.List.{length-map}
use Rattle.entry_log.specs.declared.mem_disk.MemDisk.{MemDisk}
use Rattle.agree_core.specs.declared.messages.{DeskId.DeskId, Message.Message}
use Rattle.agree_core.specs.Readers.{other}
use Rattle.wire.specs.declared.datagram.Datagram.{Datagram}
use Rattle.wire.specs.Layout.{written}
use Rattle.headline.specs.declared.event.{Event.Event, Station.Station}
use Rattle.schedule_replay.specs.declared.{seen.Seen.Seen, seen.WorldRefusal.WorldRefusal, site.Site.Site, world.World.World}
use Rattle.headline.specs.Configurations.{Node, Configuration, node, process_disk, with_disk, with_node}
use Rattle.headline.specs.Events.{station_of}
use Rattle.schedule_replay.specs.Refusals.{LeftByWant, MaySyncAt, refusal_of}
use Rattle.headline.specs.Match.{match_of}
use Rattle.schedule_replay.specs.Answers.{AreBytesOf}
use Rattle.schedule_replay.specs.Plans.{HasPlan, LeavesPlan, StaysDue, asks_fault}
use Rattle.schedule_replay.specs.inner.Sites.{HasNode, KeepsDue, SiteLeft, SiteTakes, SyncsSite, disk_at, site_cause}
use Rattle.schedule_replay.specs.inner.Sites as sites
use Rattle.schedule_replay.specs.CodeWorlds.{HasConfiguration, RefusesTo, StepsTo, code_site}
use Rattle.schedule_replay.proofs.SiteLemmas.{site_disk}

-- there are as many messages as datagrams
pub sent_length : (game : ℕ) (sent : List Datagram) (messages : List Message) → AreBytesOf game sent messages → length messages ≡ length sent
sent_length game sent messages b = sym (length-map messages (written game)) ∙ sym (ap length b.1) ∙ length-map sent (λ (d : Datagram). d.bytes)

-- the world has this site for the desk, and the other site as before
pub record Changes (d : DeskId) (old new : World) (site : Site) : Type 0 where
  pub here : code_site new d ≡ site
  pub there : code_site new (other d) ≡ code_site old (other d)
  pub same_game : new.game ≡ old.game
  pub same_innings : new.innings_a_side ≡ old.innings_a_side
  pub boards : new.boards.items ≡ old.boards.items
  pub same : sites.SameSite (code_site old d) site

module _ (d : DeskId) (old new : World) (site : Site) (w : Configuration MemDisk) (c : Changes d old new site) (h : HasConfiguration old w) where
  -- the world after one of its sites has changed
  put : (y : Node MemDisk) (out : List Message) → HasNode site y → AreBytesOf old.game new.sent.items (w.sent ++ out) → HasConfiguration new (with_node w d y out)
  put y out i b = grind (arith, h.sites, h.named)

  -- the world stays as it was
  stays : site ≡ code_site old d → new.sent.items ≡ old.sent.items → HasConfiguration new w
  stays e items = grind (arith, h.sites, h.named)

  -- the disk of a site may have been synced
  synced : (b : DeskId) → b ≡ d → SyncsSite (code_site old d) site → new.sent.items ≡ old.sent.items
      → (v : Configuration MemDisk) × MaySyncAt (match_of old.game old.innings_a_side) w b v × HasConfiguration new v
  synced b q syncs items =
      let x : Node MemDisk = node w d in
      let k = syncs x (h.sites d) in
      let names = h.named d in (
        with_node w d (record x { process = with_disk x.process k.0 }) [],
        rw q (k.0, rw (names.same_name, names.same_game) at k.1, refl),
        put _ [] k.2 (rw (append-nil, items) h.bytes),
      )

  -- what running out of memory leaves
  left : (event : Event) → station_of event ≡ Station.Desk d → SiteLeft event (code_site old d) site → new.sent.items ≡ old.sent.items
      → (v : Configuration MemDisk) × LeftByWant (match_of old.game old.innings_a_side) w event v × HasConfiguration new v
  left (Event.Open b) e l items = synced b (cc) l items
  left (Event.Migrate b) e l items = synced b (cc) l items
  left _ e l items = (w, refl, stays l items)

-- the first cause at the site is the world's first cause
cause_is : (d : DeskId) (old : World) (w : Configuration MemDisk) (event : Event) → station_of event ≡ Station.Desk d → HasConfiguration old w
    → refusal_of w event ≡ site_cause (code_site old d) old.sent.items event
cause_is d old w event e h = grind (arith, h.sites d, sent_length old.game old.sent.items w.sent h.bytes)

-- the site's plan is a plan of the world
plans : (d : DeskId) (w : Configuration MemDisk) (site : Site) (y : Node MemDisk) (out : List Message) (event : Event) → station_of event ≡ Station.Desk d → HasNode site y
    → HasPlan event (disk_at site.desk site.disk) → LeavesPlan event (with_node w d y out)
plans d w site y out event e i h c q = grind (arith, site_disk site y i)

-- a fault that stays due at the site stays due in the world
counts : (d : DeskId) (w : Configuration MemDisk) (old new : Site) (y : Node MemDisk) (out : List Message) → HasNode old (node w d) → HasNode new y → KeepsDue old new → (c : DeskId)
    → StaysDue (node (with_node w d y out) c).due (Some (process_disk (node w c).process)) (Some (process_disk (node (with_node w d y out) c).process))
counts d w old new y out h i keeps c fault due = grind (arith, site_disk old (node w d) h, site_disk new y i, keeps fault)

-- a site has taken an event, or refused it
pub at_desk : (d : DeskId) (old new : World) (site : Site) (event : Event) (result : Result Seen WorldRefusal) → station_of event ≡ Station.Desk d → Changes d old new site
    → SiteTakes event (code_site old d) old.sent.items result site new.sent.items → OnOk result (HasPlan event (disk_at site.desk site.disk))
    → OnOk result (asks_fault event ≡ false → KeepsDue (code_site old d) site) → IfOk result (λ seen. StepsTo event old seen new) × IfErr result (λ why. RefusesTo event old why new)
at_desk d old new site event (Ok seen) e c takes planned counted = (
  λ w h.
      let names = h.named d in
      let given = rw (names.same_name, names.same_game, names.same_innings) at (takes.1 (node w d) w.sent (h.sites d) (rw names.same_game h.bytes)) in (
        cause_is d old w event e h ∙ takes.0,
        (
          given.2,
          with_node w d given.0 given.1,
          given.3,
          rw e (given.0, given.1, given.4, refl),
          put d old new site w c h given.0 given.1 given.5 given.6,
          plans d w site given.0 given.1 event e given.5 planned,
          λ none. counts d w (code_site old d) site given.0 given.1 (h.sites d) given.5 (counted none),
        ),
      ),
  tt,
)
at_desk d old new site event (Err why) e c (items, inl (cause, same)) planned counted =
    (tt, λ w h. (w, inl (cause_is d old w event e h ∙ cause, refl), stays d old new site w c h same items))
at_desk d old new site event (Err why) e c (items, inr (none, want, grows, l)) planned counted = (
  tt,
  λ w h. let k = left d old new site w c h event e l items in (k.0, inr (cause_is d old w event e h ∙ none, want, grows, k.1), k.2),
)
