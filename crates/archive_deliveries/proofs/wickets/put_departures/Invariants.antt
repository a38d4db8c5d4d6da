use Rattle.std.proofs.Common.{◌≡◌, ◌++◌, take}
use Rattle.std.specs.List.{flat_map}
use Rattle.json_fields.specs.Values.{values_tokens}
use Rattle.archive_deliveries.specs.Wickets.{gone_of}
use Rattle.archive_deliveries.proofs.wickets.put_departures.Given as goal

-- the values put so far are those of the items so far
abbrev pub invariant-loop-index : goal.invariant-loop-index
invariant-loop-index l = l.out ≡ l.initial.out ++ values_tokens (flat_map (λ x. gone_of l.sheet l.side x.item) (take l.index l.notes))
