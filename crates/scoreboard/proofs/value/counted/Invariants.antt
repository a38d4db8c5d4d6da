use Rattle.std.proofs.Common.{◌≡◌, ◌≤◌, ◌*◌, drop}
use Rattle.limits.specs.inner.Walks.{walk}
use Rattle.scoreboard.specs.inner.Counting.{counted_after, nothing}
use Rattle.scoreboard.proofs.value.counted.Given as goal

-- walking on from here over the items left gives the walk over all; each item has at most 260 runs
abbrev pub invariant-loop-placed : goal.invariant-loop-placed
invariant-loop-placed l =
    (walk counted_after nothing l.items
    ≡ walk counted_after (record { begun = l.innings; this = l.runs; called = l.overs.items }) (drop l.placed-index l.items))
    × (l.runs ≤ 260 * l.placed-index) × (l.innings ≤ l.placed-index)
