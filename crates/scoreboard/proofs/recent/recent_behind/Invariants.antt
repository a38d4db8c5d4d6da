use Rattle.std.proofs.Common.{◌≡◌, ◌≤◌, ◌+◌, ◌*◌, drop}
use Rattle.limits.specs.inner.Walks.{walk}
use Rattle.scoreboard.specs.inner.Recent.{none_recent, recent_after, sum_of}
use Rattle.scoreboard.proofs.recent.recent_behind.Given as goal

-- walking on from here over the items left gives the walk over all; each item has at most 260 runs
abbrev pub invariant-loop-placed : goal.invariant-loop-placed
invariant-loop-placed l =
    (walk recent_after none_recent l.items ≡ walk recent_after l.recent (drop l.placed-index l.items))
    × (l.recent.this + sum_of l.recent.called ≤ 260 * l.placed-index) × (l.recent.called.overs ≤ 5)
