use Rattle.processes.proofs.Stations.{desk_run}
use Rattle.processes.proofs.laws.desk_runs_are_stages.Goals as goal

pub returns : goal.returns
returns g c = desk_run c.args.old.now c.args.new.now
