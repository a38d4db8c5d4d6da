use Rattle.std.proofs.Common.{arith}
use Rattle.schedules.proofs.LineTexts.{event_utf8}
use Rattle.schedules.proofs.event_line.event.Goals as goal

pub returns-in-Err : goal.returns-in-Err
returns-in-Err c = grind (arith, event_utf8 c.args.line.now, c.in-Err.ensures.cases.0)
