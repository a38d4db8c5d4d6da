use Rattle.std.proofs.Common.{◌≡◌, ◌≤◌, [], take, drop}
use Rattle.corrections.specs.CleanList.{history}
use Rattle.over_numbers.specs.Balls.{place_among}
use Rattle.over_numbers.specs.Counts.{counted}
use Rattle.over_numbers.proofs.balls.place_among.Given as goal

abbrev pub invariant-loop-index : goal.invariant-loop-index
invariant-loop-index l =
    (l.count ≡ counted (history (take l.index l.items)))
    × (place_among l.innings l.named (history (take l.index l.items)) (drop l.index l.items) ≡ place_among l.innings l.named [] l.items)
    × (l.count.begun ≤ l.index) × (l.count.overs ≤ l.index) × (l.count.balls ≤ l.index)
