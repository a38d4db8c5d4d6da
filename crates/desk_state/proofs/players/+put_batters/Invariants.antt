use Rattle.std.proofs.Common.{length}
use Rattle.desk_state.proofs.players.+put_batters.Given as goal

abbrev pub decreases-put_batters : goal.decreases-put_batters
decreases-put_batters g l = length l.numbers.now
