use Rattle.agree_core.proofs.Settling.{equal_votes_settle, settled_once}
use Rattle.agree_core.proofs.laws.settled_once.Goals as goal

pub returns : goal.returns
returns c = record { once = settled_once; least = equal_votes_settle }
