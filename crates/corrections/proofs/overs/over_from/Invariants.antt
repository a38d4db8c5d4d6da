use Rattle.std.proofs.Common.{◌-◌, length}
use Rattle.corrections.specs.inner.Overs.{AddFrom}
use Rattle.corrections.proofs.overs.over_from.Given as goal

abbrev pub invariant-loop-behind : goal.invariant-loop-behind
invariant-loop-behind l = AddFrom l.items (length l.items - l.behind)
