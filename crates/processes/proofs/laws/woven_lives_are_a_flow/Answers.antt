use Rattle.processes.proofs.WeavingLaws.{woven_lives_flow, woven_lives_have_headline}
use Rattle.processes.proofs.WholeLives.{woven_lives_part_none}
use Rattle.processes.proofs.NoneTells.{woven_lives_tell_none}
use Rattle.processes.proofs.laws.woven_lives_are_a_flow.Goals as goal

pub returns : goal.returns
returns c start = record {
  flow = woven_lives_flow c.D.Disk.seen c.D.Disk.images c.D.Disk.faults;
  headline = woven_lives_have_headline c.D.Disk.seen c.D.Disk.images c.D.Disk.faults;
  whole = woven_lives_part_none c.D.Disk.seen c.D.Disk.images c.D.Disk.faults;
  tells = woven_lives_tell_none c.D.Disk.seen c.D.Disk.images c.D.Disk.faults;
}
