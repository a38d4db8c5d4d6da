use Rattle.std.proofs.Common.{length}
use Rattle.shorthand.proofs.names.+ends_in.Given as goal

abbrev pub decreases-ends_in : goal.decreases-ends_in
decreases-ends_in l = length l.more.now
