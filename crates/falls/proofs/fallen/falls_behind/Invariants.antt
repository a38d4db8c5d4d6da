use Rattle.std.proofs.Common.{◌≡◌, ◌≤◌, drop}
use Rattle.limits.specs.inner.Walks.{walk}
use Rattle.falls.specs.inner.Falling.{falling_after, nothing}
use Rattle.falls.proofs.fallen.falls_behind.Given as goal

-- the walk over all items equals the walk from here over the remaining items: none is counted twice
abbrev pub invariant-loop-placed : goal.invariant-loop-placed
invariant-loop-placed l =
    (walk falling_after nothing l.items ≡ walk falling_after (record { at = l.at; falls = l.falls.items }) (drop l.placed-index l.items))
    × (l.at.innings ≤ l.placed-index) × (l.at.overs ≤ l.placed-index) × (l.at.balls ≤ l.placed-index)
