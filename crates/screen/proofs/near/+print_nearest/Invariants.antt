use Rattle.std.proofs.Common.{length}
use Rattle.screen.proofs.near.+print_nearest.Given as goal

abbrev pub decreases-print_nearest : goal.decreases-print_nearest
decreases-print_nearest g l = length l.words.now
