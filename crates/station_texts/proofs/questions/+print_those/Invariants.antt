use Rattle.std.proofs.Common.{length}
use Rattle.station_texts.proofs.questions.+print_those.Given as goal

abbrev pub decreases-print_those : goal.decreases-print_those
decreases-print_those g l = length l.numbers.now
