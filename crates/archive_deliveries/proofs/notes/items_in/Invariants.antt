use Rattle.std.proofs.Common.{◌≡◌, ◌++◌, drop}
use Rattle.std.specs.Prelude.{filter, ◌==◌}
use Rattle.archive_deliveries.proofs.notes.items_in.Given as goal

-- the items kept so far and those still to be kept together are all items of the innings
abbrev pub invariant-loop-index : goal.invariant-loop-index
invariant-loop-index l = l.items.items ++ filter (λ x. x.innings == l.innings) (drop l.index l.notes) ≡ filter (λ x. x.innings == l.innings) l.notes
