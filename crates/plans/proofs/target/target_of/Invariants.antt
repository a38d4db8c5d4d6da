use Rattle.std.proofs.Common.{◌++◌, take}
use Rattle.plans.specs.inner.Standing.{IsStanding}
use Rattle.plans.proofs.target.target_of.Given as goal

abbrev pub invariant-loop-index : goal.invariant-loop-index
invariant-loop-index g l = IsStanding (g.B.BookOf.content l.book ++ take l.index l.wanted) l.items.items
