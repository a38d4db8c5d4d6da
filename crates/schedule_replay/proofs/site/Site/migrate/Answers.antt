use Rattle.schedule_replay.proofs.MigrateLemmas.{of_new}
use Rattle.schedule_replay.proofs.OpenLemmas.{some_disk}
use Rattle.schedule_replay.proofs.site.Site.migrate.Goals as goal

pub returns-in-New-clause-step : goal.returns-in-New-clause-step
returns-in-New-clause-step c = λ sent.
    let d = some_disk c.args.self.now.desk c.args.self.now.disk c.requires.whole.0 c.requires.down in
    of_new c.args.self.now d.0 sent c.in-New.is c.requires.down d.1
