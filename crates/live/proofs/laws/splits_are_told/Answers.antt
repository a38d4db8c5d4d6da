use Rattle.live.proofs.SplitLemmas.{splits_are_told}
use Rattle.live.proofs.laws.splits_are_told.Goals as goal

pub returns : goal.returns
returns c = splits_are_told
