use Rattle.std.proofs.Common.{◌≡◌, ◌++◌, take}
use Rattle.std.specs.List.{flat_map}
use Rattle.delivery_rows.specs.Deliveries.{gone_way}
use Rattle.delivery_rows.proofs.gone.put_ways.Given as goal

-- how each batter left is written, for the items so far
abbrev pub invariant-loop-index : goal.invariant-loop-index
invariant-loop-index l = l.out.items ≡ l.initial.out.items ++ flat_map (λ x. gone_way x.item) (take l.index l.items)
