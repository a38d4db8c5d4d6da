use Rattle.std.proofs.Common.{length}
use Rattle.shorthand.proofs.unknown.+word_from.Given as goal

abbrev pub decreases-word_from : goal.decreases-word_from
decreases-word_from l = length l.rest.now
