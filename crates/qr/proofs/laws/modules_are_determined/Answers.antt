use Rattle.qr.proofs.DeterminedLemmas.{determined}
use Rattle.qr.proofs.laws.modules_are_determined.Goals as goal

pub returns : goal.returns
returns c = determined
