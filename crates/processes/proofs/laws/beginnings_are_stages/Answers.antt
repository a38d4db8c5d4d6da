use Rattle.processes.proofs.Stations.{beginning}
use Rattle.processes.proofs.laws.beginnings_are_stages.Goals as goal

pub returns : goal.returns
returns g c = beginning c.args.made.now
