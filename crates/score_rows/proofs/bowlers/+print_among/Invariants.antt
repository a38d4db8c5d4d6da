use Rattle.std.proofs.Common.{length}
use Rattle.score_rows.proofs.bowlers.+print_among.Given as goal

abbrev pub decreases-print_among : goal.decreases-print_among
decreases-print_among g l = length l.numbers.now
