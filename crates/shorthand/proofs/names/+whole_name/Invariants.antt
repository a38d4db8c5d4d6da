use Rattle.std.proofs.Common.{length}
use Rattle.shorthand.proofs.names.+whole_name.Given as goal

abbrev pub decreases-whole_name : goal.decreases-whole_name
decreases-whole_name l = length l.rest.now
