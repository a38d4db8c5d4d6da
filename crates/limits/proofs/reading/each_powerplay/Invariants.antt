use Rattle.std.proofs.Common.{◌≡◌, drop}
use Rattle.toml.specs.View.{array_view, items_view}
use Rattle.limits.specs.Reading as reads
use Rattle.limits.specs.Reading.{◌>>=◌}
use Rattle.limits.proofs.ListItems.{onto}
use Rattle.limits.proofs.reading.each_powerplay.Given as goal

-- all items are read as the powerplays so far, followed by those of the items that are left
abbrev pub invariant-loop-item : goal.invariant-loop-item
invariant-loop-item l =
    reads.each_powerplay (array_view l.items)
    ≡ (reads.each_powerplay (items_view (drop l.item-index l.items.items)) >>= onto l.powerplays.items)
