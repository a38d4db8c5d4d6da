-- An event at a site is taken or refused.
use Rattle.std.proofs.Common.{arith, ◌≡◌, ◌⊎◌, Bool, true, Option, Some, None, List, Result, Err}
use Rattle.std.specs.Prelude.{IfOk, OnErr}
use Rattle.std.proofs.Math.Bool.{not}
use Rattle.std.specs.Option.{is_none, is_some}
use Rattle.wire.specs.declared.datagram.Datagram.{Datagram}
use Rattle.headline.specs.declared.event.Event.{Event}
use Rattle.schedule_replay.specs.declared.{seen.Seen.Seen, seen.WorldRefusal.WorldRefusal, site.Site.Site}
use Rattle.world_desks.specs.declared.world_desk.WorldDesk.{WorldDesk}
use Rattle.schedule_replay.specs.Refusals.{may_grow, may_send}
use Rattle.schedule_replay.specs.inner.Sites.{SiteLeft, SiteSteps, SiteTakes, site_cause}
use Rattle.schedule_replay.proofs.OpenLemmas.{stays_so}

-- whether a site has no running desk
pub none_of : (desk : Option WorldDesk) (r : Bool) → is_some desk ≡ not r → r ≡ is_none desk
none_of desk r e = grind arith

-- an event that may take memory
pub wants_so : (event same : Event) (old new : Site) (sent roomy : List Datagram) (result : Result Seen WorldRefusal) → event ≡ same → site_cause old sent event ≡ None → roomy ≡ sent
    → IfOk result (λ seen. (z : List Datagram) → SiteSteps same old z seen new z) → OnErr result ((result ≡ Err WorldRefusal.NoMemory) × SiteLeft same old new) → may_grow same ≡ true
    → SiteTakes event old sent result new roomy
wants_so event same old new sent roomy result q cause e h k g = rw (q, e) (grind (arith, h, k, g, cause))

-- an event that may send messages may take memory
pub sending_grows : (event : Event) → may_send event ≡ true → may_grow event ≡ true
sending_grows event e = grind arith

-- an event that isn't taken
pub refused : (event : Event) (old : Site) (sent roomy : List Datagram) (why : WorldRefusal) → roomy ≡ sent
    → (site_cause old sent event ≡ Some why) ⊎ ((site_cause old sent event ≡ None) × (why ≡ WorldRefusal.NoMemory) × (may_send event ≡ true)) → SiteTakes event old sent (Err why) old roomy
refused event old sent roomy why e c = grind (arith, sending_grows event, stays_so old)
