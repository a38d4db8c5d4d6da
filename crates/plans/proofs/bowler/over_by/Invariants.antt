use Rattle.std.proofs.Common.{◌≡◌, ◌≤◌, ◌++◌, [], length, take, drop}
use Rattle.std.specs.Prelude.{All}
use Rattle.notation.specs.Written.{IsEntry}
use Rattle.corrections.specs.CleanList.{history}
use Rattle.over_numbers.specs.Counts.{counted}
use Rattle.plans.specs.Bowlers.{fixes_by}
use Rattle.plans.proofs.bowler.over_by.Given as goal

abbrev pub invariant-loop-index : goal.invariant-loop-index
invariant-loop-index g l =
    (l.count ≡ counted (history (take l.index l.items)))
    × (l.fixes.items ++ fixes_by l.innings l.over l.bowler (history (take l.index l.items)) (drop l.index l.items) ≡ fixes_by l.innings l.over l.bowler [] l.items)
    × All IsEntry l.fixes.items × (length l.fixes.items ≤ l.index)
    × (l.count.begun ≤ l.index) × (l.count.overs ≤ l.index) × (l.count.balls ≤ l.index)
