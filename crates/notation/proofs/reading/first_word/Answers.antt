use Rattle.std.proofs.Common.{codes}
use Rattle.notation.proofs.Skips.{ball_first, kept}
use Rattle.notation.proofs.reading.first_word.Goals as goal

pub returns-then-skip : goal.returns-then-skip
returns-then-skip c = ball_first c.args.tokens.now c.skip.new.self c.if-skip.ensures

pub returns : goal.returns
returns c = rw (← kept (codes "ball") c.args.tokens.now c.skip.new.self c.if-skip.ensures) c.word.ensures
