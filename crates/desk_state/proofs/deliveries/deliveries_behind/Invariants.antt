use Rattle.std.proofs.Common.{◌≡◌, drop}
use Rattle.desk_state.specs.inner.Items.{noted_behind, none_noted}
use Rattle.desk_state.proofs.deliveries.deliveries_behind.Given as goal

-- walking on from here over the items left gives the walk over all
abbrev pub invariant-loop-item : goal.invariant-loop-item
invariant-loop-item l = noted_behind none_noted l.placed ≡ noted_behind l.deliveries (drop l.item-index l.placed)
