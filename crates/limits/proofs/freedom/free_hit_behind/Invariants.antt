use Rattle.std.proofs.Common.{◌≡◌, drop, false}
use Rattle.limits.specs.Figures.{free_hit_after}
use Rattle.limits.specs.inner.Walks.{walk}
use Rattle.limits.proofs.freedom.free_hit_behind.Given as goal

-- the walk over all items is the walk so far, continued over the items that are left
abbrev pub invariant-loop-placed : goal.invariant-loop-placed
invariant-loop-placed l = walk free_hit_after false l.items ≡ walk free_hit_after l.is_on (drop l.placed-index l.items)
