use Rattle.std.proofs.Common.{length}
use Rattle.score_rows.proofs.over_end.+older_of.Given as goal

abbrev pub decreases-older_of : goal.decreases-older_of
decreases-older_of l = length l.over.now
