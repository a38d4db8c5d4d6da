use Rattle.std.proofs.Common.{◌≡◌, ◌++◌, drop, map}
use Rattle.json_fields.specs.Values.{values_tokens}
use Rattle.scoreboard.specs.Limited.{powerplay_value}
use Rattle.scoreboard.proofs.limited.put_each_powerplay.Given as goal

-- the tokens put so far and those still due together are all that are due
abbrev pub invariant-loop-powerplay : goal.invariant-loop-powerplay
invariant-loop-powerplay l = l.out ++ values_tokens (map powerplay_value (drop l.powerplay-index l.powerplays)) ≡ l.initial.out ++ values_tokens (map powerplay_value l.powerplays)
