use Rattle.std.proofs.Common.{◌≡◌, ◌++◌, drop}
use Rattle.archive_deliveries.specs.Notes.{carried}
use Rattle.archive_deliveries.proofs.notes.carried.Given as goal

-- the items kept so far and those carried from here on together are all that are carried
abbrev pub invariant-loop-index : goal.invariant-loop-index
invariant-loop-index l = l.items.items ++ carried (drop l.index l.notes) ≡ carried (drop l.from l.notes)
