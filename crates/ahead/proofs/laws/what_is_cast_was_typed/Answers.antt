use Rattle.ahead.proofs.OrderLemmas.{casts_in_order}
use Rattle.ahead.proofs.laws.what_is_cast_was_typed.Goals as goal

pub returns-clause-order : goal.returns-clause-order
returns-clause-order g c = casts_in_order _ (c.args._ahead.now.queue).ordered
