use Rattle.std.proofs.Common.{length}
use Rattle.sheet_check.proofs.sheet_rows.+push_powerplays.Given as goal

abbrev pub decreases-push_powerplays : goal.decreases-push_powerplays
decreases-push_powerplays l = length l.powerplays.now
