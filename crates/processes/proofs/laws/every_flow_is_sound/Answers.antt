use Rattle.processes.proofs.FlowLaws.{flows_are_runs, flows_have_headline}
use Rattle.processes.proofs.laws.every_flow_is_sound.Goals as goal

pub returns : goal.returns
returns c start = record { runs = flows_are_runs c.D.Disk.seen c.D.Disk.images; headline = flows_have_headline c.D.Disk.seen c.D.Disk.images }
