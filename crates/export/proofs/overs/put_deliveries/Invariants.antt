use Rattle.std.proofs.Common.{◌≡◌, ◌++◌, drop}
use Rattle.json_fields.specs.Values.{values_tokens}
use Rattle.archive_deliveries.specs.Innings.{of}
use Rattle.export.specs.Innings.{deliveries_from}
use Rattle.export.proofs.overs.put_deliveries.Given as goal

-- the values put so far and the values still due are all the values due
abbrev pub invariant-loop-index : goal.invariant-loop-index
invariant-loop-index l = l.out ++ values_tokens (of l.innings deliveries_from l.over l.before (drop l.index l.items))
    ≡ l.initial.out ++ values_tokens (of l.innings deliveries_from l.over l.early (drop l.from l.items))
