use Rattle.std.proofs.Common.{◌≡◌, ◌++◌, drop, map}
use Rattle.json_fields.specs.Values.{values_tokens}
use Rattle.export.specs.Limited.{range_value}
use Rattle.export.proofs.limited.put_ranges.Given as goal

-- the values put so far and the values still due are all the values due
abbrev pub invariant-loop-powerplay : goal.invariant-loop-powerplay
invariant-loop-powerplay l = l.out ++ values_tokens (map range_value (drop l.powerplay-index l.powerplays)) ≡ l.initial.out ++ values_tokens (map range_value l.powerplays)
