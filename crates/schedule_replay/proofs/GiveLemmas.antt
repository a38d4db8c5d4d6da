-- Sent bytes are taken as the message that they say.
use Rattle.std.proofs.Common.{arith, ◌≡◌, ℕ, Option, Some, List, [], ◌++◌, map, refl, ap, inl, Ok, Err}
use Rattle.std.specs.Prelude.{All, is_some, true, false, slice_get}
use Rattle.std.specs.Bool.{⊤}
use Rattle.std.proofs.lemmas.List.Elements.{All-get_or}
use Rattle.std.proofs.lemmas.Option.{get_or_from_slice_get, slice_get-map, slice_get_within}
use Rattle.corrections.specs.declared.refusal.Refusal.{Refusal}
use Rattle.entry_log.specs.Blame.{BlamesDisk}
use Rattle.entry_log.specs.MemDisk.{faults_of}
use Rattle.entry_log.specs.declared.mem_disk.MemDisk.{MemDisk}
use Rattle.agree_core.specs.declared.messages.Message.{Message}
use Rattle.agree_core.specs.Desks.{DeskState, ReceiveAnswer, Receives}
use Rattle.agree_core.specs.FileView.{FileView}
use Rattle.wire.specs.declared.{datagram.Datagram.Datagram, what.What.What}
use Rattle.wire.specs.Layout.{IsMessage, Says, written}
use Rattle.wire.specs.Sent.{AreSent}
use Rattle.wire.proofs.FaultLemmas.{reads_once}
use Rattle.wire.proofs.MessageLemmas.{says_once}
use Rattle.desk.specs.declared.desk.Received.{Received}
use Rattle.desk.specs.declared.refusal.Refusal.TheVariants as refusals
use Rattle.desk.specs.Answers.{device_answer, replied}
use Rattle.desk.specs.Takes.{Takes}
use Rattle.headline.specs.declared.event.{Event.Event, Station.Station}
use Rattle.schedule_replay.specs.declared.{seen.Cause.Cause, seen.Seen.Seen, site.Site.Site}
use Rattle.world_desks.specs.declared.world_desk.WorldDesk.{WorldDesk}
use Rattle.headline.specs.Configurations.{Running, Node}
use Rattle.headline.specs.Answers.{Answer}
use Rattle.headline.specs.DeskAnswers.{AfterReceive, has_any}
use Rattle.headline.specs.Match.{match_of}
use Rattle.schedule_replay.specs.Answers.{AreBytesOf, answer_of, given_seen, is_fault}
use Rattle.schedule_replay.specs.inner.Sites.{BreaksDown, SiteSteps}
use Rattle.world_desks.specs.WorldDesks.{SameOwner, disk_of, game_of, state_of, view_of}
use Rattle.schedule_replay.proofs.SiteLemmas.{broken_site, more_bytes, no_bytes, running_is, runs_on}

any_reply : (game : ℕ) (reply : Option (List ℕ)) (out : List Message) → replied reply ≡ map (written game) out → is_some reply ≡ has_any out
any_reply game reply out e = grind arith

-- A desk that takes bytes receives the message that they say, and the answer is what is seen, unless a device call failed.
takes_as : (view : FileView MemDisk) (game : ℕ) (x : Node MemDisk) (k l : DeskState MemDisk) (bytes : List ℕ) (what : What) (reply : Option (List ℕ)) (out : List Message)
    (m : Message) → Says game bytes m → Takes view game k bytes what l out → is_fault what ≡ false → replied reply ≡ map (written game) out
    → (received : ReceiveAnswer) × (answer : Answer Refusal) × (answer_of (given_seen what reply) ≡ Some answer)
    × Receives view k m received l out × AfterReceive view x received l out answer (record x { process = Running l })
takes_as view game x k l bytes (What.Bad fault) reply out m s t n e = let both = reads_once game bytes (Ok m) (Err fault) s t.1 in absurd (cc)
takes_as view game x k l bytes What.Failed reply out m s t n e =
    (ReceiveAnswer.Failed, Answer.HasFailed, refl, (t.0, rw t.1 ((refl, λ image. (λ shown. shown, λ shown. shown)), refl), t.2), (refl, refl))
takes_as view game x k l bytes (What.Heard h) reply out m s t n e =
    (ReceiveAnswer.Told h, Answer.Told h, refl, rw (says_once game bytes t.0 m t.1 s) at t.2, (refl, refl))
takes_as view game x k l bytes What.Asked reply out m s t n e =
    (ReceiveAnswer.Asked, Answer.Asked (is_some reply), refl, rw (says_once game bytes t.0 m t.1 s) at t.2, (ap Answer.Asked (any_reply game reply out e), refl))
takes_as view game x k l bytes What.Device reply out m s t n e = absurd (cc)

-- what holds of all items holds of the one at this number
pub all_at : {X : Type 0} (P : X → Type 0) (xs : List X) (n : ℕ) (x : X) → All P xs → slice_get xs n ≡ Some x → P x
all_at P xs n x all e = rw (get_or_from_slice_get xs n x x e) at (All-get_or P xs n x (slice_get_within xs n x e) all)

-- the bytes at this number say a message
pub message_at : (game : ℕ) (sent : List Datagram) (messages : List Message) (n : ℕ) (d : Datagram) → AreBytesOf game sent messages → slice_get sent n ≡ Some d
    → (m : Message) × (slice_get messages n ≡ Some m) × Says game d.bytes m
message_at game sent messages n d b there =
    grind (arith, slice_get-map (λ (x : Datagram). x.bytes) sent n, slice_get-map (written game) messages n, all_at IsMessage messages n)

nothing_said : (view : FileView MemDisk) (k l : DeskState MemDisk) (m : Message) (out : List Message) → Receives view k m ReceiveAnswer.DeviceFailed l out → out ≡ []
nothing_said view k l m out r = grind arith

faulty : (what : What) → is_fault what ≡ true → what ≡ What.Device
faulty what e = grind arith

abbrev pub GiveBlame : WorldDesk → Received → WorldDesk → Type 0
GiveBlame k r l = BlamesDisk What.Device ⊤ (device_answer r.what) (faults_of (disk_of k)) (faults_of (disk_of l))

pub calm_faults : (k l : WorldDesk) (r : Received) → GiveBlame k r l → is_fault r.what ≡ false → faults_of (disk_of l) ≡ faults_of (disk_of k)
calm_faults k l r blame calm = blame.same (λ e. grind arith)

module _ (old : Site) (k l : WorldDesk) (n : ℕ) (t : Station) (d : Datagram) (r : Received) (before : List Datagram) (here : old.desk ≡ Some k) (there : slice_get before n ≡ Some d)
    (step : AreSent (game_of k) (replied r.reply) (λ out. Takes (view_of k) (game_of k) (state_of k) d.bytes r.what (state_of l) out)) (owner : SameOwner k l) (blame : GiveBlame k r l) where
  -- the site's desk is given a sent message
  pub give_runs_on : (after : List Datagram) → is_fault r.what ≡ false → map (λ (x : Datagram). x.bytes) after ≡ map (λ (x : Datagram). x.bytes) before ++ replied r.reply
      → SiteSteps (Event.Give n t) old before (given_seen r.what r.reply) (record old { desk = Some l }) after
  give_runs_on after calm bytes x messages h b =
      let runs = running_is old k x here h in
      let o = runs.owner in
      let given = rw (o.same_name, o.same_version, o.same_game) at step in
      let m = message_at old.game before messages n d b there in
      let view = (match_of old.game old.innings_a_side).view old.name x.version in
      let taken = takes_as view old.game x (state_of k) (state_of l) d.bytes r.what r.reply given.0 m.0 m.2 given.3 calm given.2 in (
        record x { process = Running (state_of l) },
        given.0,
        taken.1,
        taken.2,
        (state_of k, state_of l, m.0, taken.0, runs.process, inl m.1, taken.3, taken.4),
        runs_on old k l x here h owner (calm_faults k l r blame calm),
        more_bytes old.game before after messages given.0 (replied r.reply) b given.1 given.2 bytes,
      )

  -- a device call of the desk failed while it answered an ask
  pub give_breaks : (new : Site) (seen : Seen) → is_fault r.what ≡ true → BreaksDown old.due (Cause.Desk refusals.Device) (record old { desk = Some l }) seen new
      → SiteSteps (Event.Give n t) old before seen new before
  give_breaks new seen fails broke x messages h b =
      let runs = running_is old k x here h in
      let o = runs.owner in
      let given = rw (o.same_name, o.same_version, o.same_game) at step in
      let m = message_at old.game before messages n d b there in
      let device = faulty r.what fails in
      let failed = rw device at given.3 in
      let received = rw (says_once old.game d.bytes failed.0 m.0 failed.1 m.2) at failed.2 in
      let blamed = rw device at blame in
      let broken = broken_site old new k l x (Cause.Desk refusals.Device) seen here h owner (λ q. blamed.calm q tt refl) (λ o. blamed.spent o tt refl) refl broke in
      (broken.0, given.0, broken.1, broken.2, (state_of k, state_of l, m.0, ReceiveAnswer.DeviceFailed, runs.process, inl m.1, received, broken.3), broken.4, rw (nothing_said ((match_of old.game old.innings_a_side).view old.name x.version) (state_of k) (state_of l) m.0 given.0 received) (no_bytes old.game before messages b))
