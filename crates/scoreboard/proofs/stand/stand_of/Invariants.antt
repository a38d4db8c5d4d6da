use Rattle.std.proofs.Common.{◌≡◌, ◌≤◌, ◌*◌, drop}
use Rattle.limits.specs.inner.Walks.{walk}
use Rattle.scoreboard.specs.Stand.{no_stand, stand_after}
use Rattle.scoreboard.proofs.stand.stand_of.Given as goal

-- walking on from here over the items left gives the walk over all; each item has at most 260 runs
abbrev pub invariant-loop-placed : goal.invariant-loop-placed
invariant-loop-placed l =
    (walk stand_after no_stand l.items ≡ walk stand_after l.stand (drop l.placed-index l.items))
    × (l.stand.runs ≤ 260 * l.placed-index) × (l.stand.balls ≤ l.placed-index)
