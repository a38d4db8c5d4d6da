use Rattle.std.proofs.Common.{length}
use Rattle.changes.proofs.telling.+tell_players.Given as goal

abbrev pub decreases-tell_players : goal.decreases-tell_players
decreases-tell_players g l = length l.numbers.now
