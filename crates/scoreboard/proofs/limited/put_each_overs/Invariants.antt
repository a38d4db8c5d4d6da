use Rattle.std.proofs.Common.{◌≡◌, ◌++◌, drop, map}
use Rattle.json_fields.specs.Values.{values_tokens, number_value}
use Rattle.scoreboard.proofs.limited.put_each_overs.Given as goal

-- the tokens put so far and those still due together are all that are due
abbrev pub invariant-loop-number : goal.invariant-loop-number
invariant-loop-number l = l.out ++ values_tokens (map number_value (drop l.number-index l.overs)) ≡ l.initial.out ++ values_tokens (map number_value l.overs)
