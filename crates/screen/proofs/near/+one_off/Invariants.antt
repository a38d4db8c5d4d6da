use Rattle.std.proofs.Common.{length}
use Rattle.screen.proofs.near.+one_off.Given as goal

abbrev pub decreases-one_off : goal.decreases-one_off
decreases-one_off l = length l.token.now
