use Rattle.std.proofs.Common.{length}
use Rattle.screen.proofs.waiting.+print_those.Given as goal

abbrev pub decreases-print_those : goal.decreases-print_those
decreases-print_those g l = length l.numbers.now
