use Rattle.std.proofs.Common.{◌≡◌, ◌++◌, drop, map}
use Rattle.json_fields.specs.Values.{values_tokens}
use Rattle.desk_state.specs.Over.{delivery_value}
use Rattle.desk_state.proofs.over.put_each.Given as goal

-- the tokens put so far and those still due together are all that are due
abbrev pub invariant-loop-delivery : goal.invariant-loop-delivery
invariant-loop-delivery l = l.out ++ values_tokens (map delivery_value (drop l.delivery-index l.over)) ≡ l.initial.out ++ values_tokens (map delivery_value l.over)
