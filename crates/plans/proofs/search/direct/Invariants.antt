use Rattle.plans.specs.inner.Standing.{IsDraft}
use Rattle.plans.proofs.search.direct.Given as goal

abbrev pub invariant-loop-index : goal.invariant-loop-index
invariant-loop-index g l = IsDraft l.innings_a_side (g.B.BookOf.content l.book) l.draft.lines.items l.draft.items.items
