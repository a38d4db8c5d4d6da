use Rattle.board.proofs.Splits.{splits_are_seen}
use Rattle.board.proofs.laws.splits_are_seen.Goals as goal

pub returns : goal.returns
returns c = splits_are_seen
