use Rattle.std.proofs.Common.{◌≡◌, ◌++◌, drop}
use Rattle.json_fields.specs.Values.{fields_tokens}
use Rattle.archive_deliveries.specs.Miscounts.{miscounts}
use Rattle.archive_deliveries.proofs.miscounts.put_each.Given as goal

-- the tokens put so far and those still due together are all that are due
abbrev pub invariant-loop-index : goal.invariant-loop-index
invariant-loop-index l = l.out ++ fields_tokens (miscounts (drop l.index l.items)) ≡ l.initial.out ++ fields_tokens (miscounts l.items)
