use Rattle.progress.proofs.WorkedExchange.{worked_exchange}
use Rattle.progress.proofs.laws.worked_exchange.Goals as goal

pub returns : goal.returns
returns c = λ rules e. worked_exchange rules e
