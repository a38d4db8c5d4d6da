use Rattle.std.proofs.Common.{◌≡◌, ◌++◌, drop, map}
use Rattle.json_fields.specs.Values.{number_value, values_tokens}
use Rattle.export.proofs.limited.put_numbers.Given as goal

-- the values put so far and the values still due are all the values due
abbrev pub invariant-loop-number : goal.invariant-loop-number
invariant-loop-number l = l.out ++ values_tokens (map number_value (drop l.number-index l.overs)) ≡ l.initial.out ++ values_tokens (map number_value l.overs)
