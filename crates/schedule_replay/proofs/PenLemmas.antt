-- A pen at a site's desk is a step of the definitions.
use Rattle.std.proofs.Common.{arith, ◌≡◌, ◌≢◌, Bool, Some, List, ◌++◌, map, refl, sym, ap, append-nil, ◌∙◌, Result, Err}
use Rattle.notation.specs.declared.entry.Entry.{Entry}
use Rattle.entry_log.specs.MemDisk.{cap_of, faults_of}
use Rattle.agree_core.specs.Desks.{PenAnswer, Pens}
use Rattle.entry_log.specs.Blame.{BlamesDisk}
use Rattle.wire.specs.declared.datagram.Datagram.{Datagram}
use Rattle.wire.specs.Sent.{AreSent}
use Rattle.desk.specs.declared.{desk.Penned.Penned, refusal.Refusal.Refusal as DeskRefusal}
use Rattle.desk.specs.Answers.{pen_answer, sent}
use Rattle.headline.specs.declared.event.Event.{Event}
use Rattle.schedule_replay.specs.declared.{seen.Cause.Cause, seen.Seen.Seen, site.Site.Site}
use Rattle.world_desks.specs.declared.world_desk.WorldDesk.{WorldDesk}
use Rattle.headline.specs.Configurations.{Running}
use Rattle.headline.specs.Match.{most_bytes}
use Rattle.schedule_replay.specs.Answers.{answer_of, told_to_pen}
use Rattle.schedule_replay.specs.inner.Sites.{AfterRefusal, RefusedBy, SameSite, SiteSteps}
use Rattle.world_desks.specs.WorldDesks.{FitsOneMore, SameOwner, disk_of, game_of, rules_of, state_of, version_of, view_of}
use Rattle.schedule_replay.proofs.SiteLemmas.{broken_same, broken_site, has_room, more_bytes, no_bytes, running_is, runs_on}

abbrev pub PenSteps : WorldDesk → Entry → Result Penned DeskRefusal → WorldDesk → Type 0
PenSteps k e told l =
    AreSent (game_of k) (sent told) (λ out. Pens (view_of k) (rules_of k) (state_of k) e (pen_answer told) (state_of l) out)

abbrev pub PenBlame : WorldDesk → Result Penned DeskRefusal → WorldDesk → Type 0
PenBlame k told l = BlamesDisk DeskRefusal.Device (FitsOneMore k) told (faults_of (disk_of k)) (faults_of (disk_of l))

module _ (old : Site) (k l : WorldDesk) (e : Entry) (before : List Datagram) (here : old.desk ≡ Some k) (owner : SameOwner k l) where
  -- the desk of a site has penned, or has refused to
  pub pen_runs_on : (told : Result Penned DeskRefusal) (seen : Seen) (after : List Datagram) → PenSteps k e told l → PenBlame k told l
      → pen_answer told ≢ PenAnswer.DeviceFailed → answer_of seen ≡ Some (told_to_pen (pen_answer told))
      → map (λ (d : Datagram). d.bytes) after ≡ map (λ (d : Datagram). d.bytes) before ++ sent told
      → SiteSteps (Event.Pen old.name e) old before seen (record old { desk = Some l }) after
  pen_runs_on told seen after step blame n a bytes x messages h b =
      let r = running_is old k x here h in
      let o = r.owner in
      let penned = rw (o.same_name, o.same_version, o.same_game, o.same_innings) at step in (
        record x { process = Running (state_of l) },
        penned.0,
        told_to_pen (pen_answer told),
        a,
        (state_of k, state_of l, pen_answer told, r.process, penned.3, grind (arith, n)),
        runs_on old k l x here h owner (blame.same (λ q. n (ap pen_answer q))),
        more_bytes old.game before after messages penned.0 (sent told) b penned.1 penned.2 bytes,
      )

  -- the desk has refused, or a device call failed while it penned
  pub pen_refused : (new : Site) (why : DeskRefusal) (seen : Seen) → PenSteps k e (Err why) l → PenBlame k (Err why) l
      → AfterRefusal why (record old { desk = Some l }) seen new → SiteSteps (Event.Pen old.name e) old before seen new before
  pen_refused new DeskRefusal.Device seen step blame broke = λ x messages h b.
      let r = running_is old k x here h in
      let o = r.owner in
      let penned = rw (o.same_name, o.same_version, o.same_game, o.same_innings) at step in
      let disk = r.on_disk in
      let cap : cap_of (disk_of k) ≡ _ = disk.cap ∙ ap most_bytes (sym (o.same_version ∙ h.version)) in
      let within : FitsOneMore k = has_room (version_of k) _ _ penned.3.0.1.1 cap in
      let broken = broken_site old new k l x (Cause.Desk DeskRefusal.Device) seen here h owner (λ n. blame.calm n within refl) (λ o. blame.spent o within refl) refl broke in
      (broken.0, penned.0, broken.1, broken.2, (state_of k, state_of l, PenAnswer.DeviceFailed, r.process, penned.3, broken.3), broken.4, rw penned.3.3 (no_bytes old.game before messages b))
  pen_refused new why seen step blame a =
      rw (a.0, a.1) (pen_runs_on (Err why) (Seen.Refused (Cause.Desk why)) before step blame (λ q. (cc)) refl (sym (append-nil _)))

-- after a refusal the site is of the same match
pub refused_same : (device : Bool) (why : DeskRefusal) (old new : Site) (l : WorldDesk) (seen : Seen) → RefusedBy device why (record old { desk = Some l }) seen new → SameSite old new
refused_same device why old new l seen q = grind (arith, broken_same old.due (Cause.Desk why) old new (Some l) old.disk seen)
