use Rattle.std.proofs.Common.{◌≡◌, take}
use Rattle.ball_laws.specs.Over.{bowled_in}
use Rattle.corrections.specs.Overs.{balls_of}
use Rattle.limits.proofs.bowling.bowled_among.Given as goal

abbrev pub invariant-loop-placed : goal.invariant-loop-placed
invariant-loop-placed l = l.has_bowled ≡ bowled_in l.player (balls_of (take l.placed-index l.items))
