use Rattle.links.proofs.WindowLemmas.{is_taken}
use Rattle.links.proofs.window.WindowLink.take.Goals as goal

pub returns-clause-log : goal.returns-clause-log
returns-clause-log g c = rw c.taken.ensures (is_taken _ c.take_message.result _ _ _ c.take_message.ensures.log)
