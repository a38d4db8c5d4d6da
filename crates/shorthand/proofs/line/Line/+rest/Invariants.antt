use Rattle.std.proofs.Common.{length}
use Rattle.shorthand.proofs.line.Line.+rest.Given as goal

abbrev pub decreases-rest : goal.decreases-rest
decreases-rest l = length l.words.now
