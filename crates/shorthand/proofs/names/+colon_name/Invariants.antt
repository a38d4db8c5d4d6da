use Rattle.std.proofs.Common.{length}
use Rattle.shorthand.proofs.names.+colon_name.Given as goal

abbrev pub decreases-colon_name : goal.decreases-colon_name
decreases-colon_name l = length l.rest.now
