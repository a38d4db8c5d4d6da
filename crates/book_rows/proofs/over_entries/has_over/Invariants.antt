use Rattle.std.proofs.Common.{◌≡◌, ◌≤◌, [], take, drop}
use Rattle.corrections.specs.CleanList.{history}
use Rattle.over_numbers.specs.Counts.{counted}
use Rattle.book_rows.specs.OverEntries.{has_over}
use Rattle.book_rows.proofs.over_entries.has_over.Given as goal

abbrev pub invariant-loop-index : goal.invariant-loop-index
invariant-loop-index l =
    (l.count ≡ counted (history (take l.index l.items)))
    × (has_over l.innings l.number (history (take l.index l.items)) (drop l.index l.items) ≡ has_over l.innings l.number [] l.items)
    × (l.count.begun ≤ l.index) × (l.count.overs ≤ l.index) × (l.count.balls ≤ l.index)
