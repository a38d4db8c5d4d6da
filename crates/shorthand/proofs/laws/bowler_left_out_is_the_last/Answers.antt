use Rattle.shorthand.proofs.Bowlers.{point_at-last}
use Rattle.shorthand.proofs.laws.bowler_left_out_is_the_last.Goals as goal

pub returns : goal.returns
returns c = assumption point_at-last
