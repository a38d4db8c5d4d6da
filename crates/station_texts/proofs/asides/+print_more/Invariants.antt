use Rattle.std.proofs.Common.{length}
use Rattle.station_texts.proofs.asides.+print_more.Given as goal

abbrev pub decreases-print_more : goal.decreases-print_more
decreases-print_more g l = length l.lines.now
