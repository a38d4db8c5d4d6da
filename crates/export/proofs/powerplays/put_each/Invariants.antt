use Rattle.std.proofs.Common.{◌≡◌, ◌++◌, drop, map}
use Rattle.json_fields.specs.Values.{values_tokens}
use Rattle.export.specs.Innings.{powerplay_value}
use Rattle.export.proofs.powerplays.put_each.Given as goal

-- the values put so far and the values still due are all the values due
abbrev pub invariant-loop-powerplay : goal.invariant-loop-powerplay
invariant-loop-powerplay l = l.out ++ values_tokens (map powerplay_value (drop l.powerplay-index l.powerplays)) ≡ l.initial.out ++ values_tokens (map powerplay_value l.powerplays)
