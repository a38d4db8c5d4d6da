use Rattle.schedules.proofs.ScheduleCuts.{cut_split}
use Rattle.schedules.proofs.event_line.cut.Goals as goal

pub returns : goal.returns
returns c = cut_split c.args.words.now c.split_once.result c.split_once.ensures.cases
