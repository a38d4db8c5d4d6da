use Rattle.std.proofs.Common.{Some, ap, refl}
use Rattle.schedule_replay.proofs.EventLemmas.{powers}
use Rattle.schedule_replay.proofs.site.Site.power.Goals as goal

pub returns-in-Some-clause-step : goal.returns-in-Some-clause-step
returns-in-Some-clause-step c = λ sent.
    let e = c.lose_power.ensures in
    powers c.args.self.now c.put_down.new.self _ c.args.choice c.in-Some.disk c.lose_power.new.disk sent c.put_down.ensures.down c.in-Some.is e.image e.images e.cap e.plan refl

pub returns-in-Some-clause-planned : goal.returns-in-Some-clause-planned
returns-in-Some-clause-planned c = let put = c.put_down.ensures.down in rw put.desk (ap Some c.lose_power.ensures.plan)
