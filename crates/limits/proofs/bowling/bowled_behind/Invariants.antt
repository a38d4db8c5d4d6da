use Rattle.std.proofs.Common.{◌≡◌, ◌≤◌, drop}
use Rattle.limits.specs.inner.Walks.{bowled_after, none_bowled, walk}
use Rattle.limits.proofs.bowling.bowled_behind.Given as goal

-- the walk over all items is the walk so far, continued over those that are left; there are no more called overs than items
abbrev pub invariant-loop-placed : goal.invariant-loop-placed
invariant-loop-placed l =
    (walk (bowled_after l.player) none_bowled l.items ≡ walk (bowled_after l.player) l.bowled (drop l.placed-index l.items))
    × (l.bowled.called ≤ l.placed-index)
