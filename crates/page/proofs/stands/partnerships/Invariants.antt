use Rattle.std.proofs.Common.{◌≡◌, ◌++◌, ◌≤◌, ◌*◌, drop}
use Rattle.page.specs.Stands as laws
use Rattle.page.proofs.stands.partnerships.Given as goal

-- the partnerships so far and those of the items left are all; an item has at most 260 runs
abbrev pub invariant-loop-index : goal.invariant-loop-index
invariant-loop-index l =
    (l.list.items ++ laws.partnerships_from l.innings l.stand (drop l.index l.moments) ≡ laws.partnerships l.innings l.moments)
    × (l.stand.runs ≤ 260 * l.index) × (l.stand.balls ≤ l.index)
