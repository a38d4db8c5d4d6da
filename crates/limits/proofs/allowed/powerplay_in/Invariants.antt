use Rattle.std.proofs.Common.{◌≡◌, ◌+◌, drop}
use Rattle.limits.specs.Limits.{powerplay_from}
use Rattle.limits.proofs.allowed.powerplay_in.Given as goal

-- no powerplay before this index includes the over
abbrev pub invariant-loop-index : goal.invariant-loop-index
invariant-loop-index l = powerplay_from l.over 1 l.powerplays ≡ powerplay_from l.over (l.index + 1) (drop l.index l.powerplays)
