use Rattle.std.proofs.Common.{length}
use Rattle.sheet_check.proofs.sheet_rows.+push_players.Given as goal

abbrev pub decreases-push_players : goal.decreases-push_players
decreases-push_players l = length l.numbers.now
