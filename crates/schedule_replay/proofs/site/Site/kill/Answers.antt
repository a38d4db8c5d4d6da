use Rattle.std.proofs.Common.{Some, ap}
use Rattle.schedule_replay.proofs.EventLemmas.{kills}
use Rattle.schedule_replay.proofs.SiteLemmas.{some_is}
use Rattle.schedule_replay.proofs.site.Site.kill.Goals as goal

pub returns-clause-step : goal.returns-clause-step
returns-clause-step c = λ sent. let k = some_is c.args.self.now.desk c.requires.running in kills c.args.self.now c.put_down.new.self k.0 sent k.1 c.put_down.ensures.down

pub returns-clause-planned : goal.returns-clause-planned
returns-clause-planned c = let put = c.put_down.ensures.down in rw (put.desk, put.disk.3) (ap Some put.disk.4.plan)
