use Rattle.processes.proofs.GoingOn.{processes_go_on}
use Rattle.processes.proofs.laws.every_flow_goes_on.Goals as goal

pub returns : goal.returns
returns c start = processes_go_on c.D.Disk.seen c.D.Disk.images
