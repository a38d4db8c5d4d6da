use Rattle.sheet_stations.proofs.InTurn.{lives_in_turn_are_woven}
use Rattle.sheet_stations.proofs.laws.lives_in_turn_are_woven.Goals as goal

pub returns : goal.returns
returns c = lives_in_turn_are_woven
