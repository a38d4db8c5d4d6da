use Rattle.std.proofs.Common.{◌≡◌, true, take}
use Rattle.std.specs.Prelude.{All}
use Rattle.plans.specs.Plans.{names}
use Rattle.plans.proofs.naming.first_unnamed.Given as goal

abbrev pub invariant-loop-index : goal.invariant-loop-index
invariant-loop-index g l = All (λ e. names (g.B.BookOf.content l.book) e ≡ true) (take l.index l.wanted)
