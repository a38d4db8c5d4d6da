use Rattle.std.proofs.Common.{codes}
use Rattle.notation.proofs.Skips.{bat_first, kept}
use Rattle.notation.proofs.reading.kind.Goals as goal

pub returns-then-skip : goal.returns-then-skip
returns-then-skip c = bat_first c.args.tokens.now c.skip.new.self c.if-skip.ensures

pub returns : goal.returns
returns c = rw (← kept (codes "bat") c.args.tokens.now c.skip.new.self c.if-skip.ensures) c.word.ensures
