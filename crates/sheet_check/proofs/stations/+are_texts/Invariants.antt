use Rattle.std.proofs.Common.{length}
use Rattle.sheet_check.proofs.stations.+are_texts.Given as goal

abbrev pub decreases-are_texts : goal.decreases-are_texts
decreases-are_texts l = length l.items.now
