use Rattle.std.proofs.Common.{◌≡◌, ◌++◌, drop, map}
use Rattle.json.specs.Json.{string}
use Rattle.json_fields.specs.Values.{values_tokens}
use Rattle.desk_state.proofs.head.put_lines.Given as goal

-- the tokens put so far and those still due together are all that are due
abbrev pub invariant-loop-line : goal.invariant-loop-line
invariant-loop-line l = l.out ++ values_tokens (map (λ x. string x.bytes) (drop l.line-index l.lines)) ≡ l.initial.out ++ values_tokens (map (λ x. string x.bytes) l.lines)
