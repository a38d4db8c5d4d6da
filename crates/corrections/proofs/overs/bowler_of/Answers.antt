use Rattle.std.proofs.Common.{arith}
use Rattle.corrections.specs.Overs.{newest_bowler}
use Rattle.corrections.proofs.OverLemmas.{balls_more}
use Rattle.corrections.proofs.overs.bowler_of.Goals as goal

pub loop-placed-preserved : goal.loop-placed-preserved
loop-placed-preserved c = search (arith, newest_bowler, balls_more)
