use Rattle.std.proofs.Common.{length}
use Rattle.station_texts.proofs.plan_text.+print_rows.Given as goal

abbrev pub decreases-print_rows : goal.decreases-print_rows
decreases-print_rows g l = length l.entries.now
