use Rattle.std.proofs.Common.{length}
use Rattle.sheet_check.proofs.sides.+put_kinds.Given as goal

abbrev pub decreases-put_kinds : goal.decreases-put_kinds
decreases-put_kinds l = length l.items.now
