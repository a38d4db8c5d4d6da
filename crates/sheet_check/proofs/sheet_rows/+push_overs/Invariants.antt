use Rattle.std.proofs.Common.{length}
use Rattle.sheet_check.proofs.sheet_rows.+push_overs.Given as goal

abbrev pub decreases-push_overs : goal.decreases-push_overs
decreases-push_overs l = length l.overs.now
