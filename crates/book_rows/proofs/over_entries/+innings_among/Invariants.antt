use Rattle.std.proofs.Common.{length}
use Rattle.book_rows.proofs.over_entries.+innings_among.Given as goal

abbrev pub decreases-innings_among : goal.decreases-innings_among
decreases-innings_among l = length l.innings.now
