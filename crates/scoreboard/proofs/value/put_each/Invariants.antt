use Rattle.std.proofs.Common.{◌≡◌, ◌++◌, drop, map}
use Rattle.json_fields.specs.Values.{values_tokens}
use Rattle.scoreboard.specs.OverRuns.{over_value}
use Rattle.scoreboard.proofs.value.put_each.Given as goal

-- the tokens put so far and those still due together are all that are due
abbrev pub invariant-loop-over : goal.invariant-loop-over
invariant-loop-over l = l.out ++ values_tokens (map over_value (drop l.over-index l.overs)) ≡ l.initial.out ++ values_tokens (map over_value l.overs)
