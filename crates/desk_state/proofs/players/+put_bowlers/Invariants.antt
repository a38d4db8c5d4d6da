use Rattle.std.proofs.Common.{length}
use Rattle.desk_state.proofs.players.+put_bowlers.Given as goal

abbrev pub decreases-put_bowlers : goal.decreases-put_bowlers
decreases-put_bowlers g l = length l.numbers.now
