use Rattle.std.proofs.Common.{◌∙◌, ap, refl}
use Rattle.seal.specs.declared.carrier.CarriedLog.{CarriedLog}
use Rattle.seal.specs.Carried.{carried_of}
use Rattle.seal.specs.Opening.{passing}
use Rattle.station_screens.proofs.CarriedLemmas.{was_carried}
use Rattle.desk_command.proofs.life.StationLinkCarries.carried.Goals as goal

pub returns : goal.returns
returns g c =
    let ring = c.link.result.now.ring in
    (ring, was_carried _ ring refl (ap (λ (log : CarriedLog). passing ring (carried_of log)) c.passed.ensures ∙ rw c.carrier.ensures c.link.ensures.log) c.link.ensures.faithful)
