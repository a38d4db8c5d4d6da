use Rattle.std.proofs.Common.{◌≡◌, drop}
use Rattle.toml.specs.View.{array_view, items_view}
use Rattle.limits.specs.Reading as reads
use Rattle.limits.specs.Reading.{◌>>=◌}
use Rattle.limits.proofs.ListItems.{onto}
use Rattle.limits.proofs.reading.numbers_of.Given as goal

-- all items are read as the numbers so far, followed by those of the items that are left
abbrev pub invariant-loop-item : goal.invariant-loop-item
invariant-loop-item l =
    reads.numbers_of (array_view l.items) ≡ (reads.numbers_of (items_view (drop l.item-index l.items.items)) >>= onto l.numbers.items)
