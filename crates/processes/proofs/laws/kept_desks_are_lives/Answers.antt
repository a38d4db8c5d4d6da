use Rattle.processes.proofs.Stations.{desk_life}
use Rattle.processes.proofs.laws.kept_desks_are_lives.Goals as goal

pub returns : goal.returns
returns c start = desk_life c.D.Disk.seen c.D.Disk.images c.D.Disk.faults
