use Rattle.std.proofs.Common.{◌≡◌, ◌++◌, take}
use Rattle.std.specs.List.{flat_map}
use Rattle.delivery_rows.specs.Deliveries.{gone_name}
use Rattle.delivery_rows.proofs.gone.put_names.Given as goal

-- each batter who left is written, for the items so far
abbrev pub invariant-loop-index : goal.invariant-loop-index
invariant-loop-index l = l.out.items ≡ l.initial.out.items ++ flat_map (λ x. gone_name l.sheet l.side x.item) (take l.index l.items)
