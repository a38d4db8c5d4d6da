use Rattle.std.proofs.Common.{arith}
use Rattle.agree_core.proofs.WorkedVotes.{least_round, refused_in_turn, second_round}
use Rattle.agree_core.proofs.laws.worked_votes.Goals as goal

pub returns : goal.returns
returns c = search (arith, second_round, least_round, refused_in_turn)
