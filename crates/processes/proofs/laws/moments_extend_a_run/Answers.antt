use Rattle.processes.proofs.StepLaws.{boards_step, desks_step}
use Rattle.processes.proofs.laws.moments_extend_a_run.Goals as goal

pub returns : goal.returns
returns c start = record { boards = boards_step c.D.Disk.seen c.D.Disk.images; desks = desks_step c.D.Disk.seen c.D.Disk.images }
