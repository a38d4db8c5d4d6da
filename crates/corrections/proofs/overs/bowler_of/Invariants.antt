use Rattle.std.proofs.Common.{◌≡◌, take}
use Rattle.corrections.specs.Overs.{balls_of, newest_bowler}
use Rattle.corrections.proofs.overs.bowler_of.Given as goal

abbrev pub invariant-loop-placed : goal.invariant-loop-placed
invariant-loop-placed l = l.bowler ≡ newest_bowler (balls_of (take l.placed-index l.items))
