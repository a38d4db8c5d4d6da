use Rattle.agree_core.proofs.Order.{in_sequence}
use Rattle.agree_core.proofs.Settling.{one_vote_each, places_settled, rounds_differ}
use Rattle.agree_core.proofs.laws.votes_follow.Goals as goal

pub returns : goal.returns
returns c = record { once = one_vote_each; rounds = rounds_differ; places = places_settled; sequence = in_sequence }
