use Rattle.plans.specs.inner.Standing.{IsDraft}
use Rattle.plans.proofs.search.search.Given as goal

abbrev pub invariant-loop-tried : goal.invariant-loop-tried
invariant-loop-tried g l = IsDraft l.innings_a_side (g.B.BookOf.content l.book) l.draft.lines.items l.draft.items.items
