use Rattle.std.proofs.Common.{rules, arith}
use Rattle.notation.proofs.Texts.{answer_entry}
use Rattle.notation.proofs.reading.answer.Goals as goal

pub returns-in-Ok : goal.returns-in-Ok
returns-in-Ok c = answer_entry c.args.line.now c.in-Ok.entry (omega (arith, c.if-line-gt96.false)) (search rules)
