use Rattle.std.proofs.Common.{◌≡◌, ◌++◌, drop}
use Rattle.falls.specs.Falls.{falls_in}
use Rattle.falls.proofs.fallen.falls_in.Given as goal

-- the falls kept so far, with those of the remaining ones, are all of the innings
abbrev pub invariant-loop-fall : goal.invariant-loop-fall
invariant-loop-fall l = l.its.items ++ falls_in l.number (drop l.fall-index l.falls) ≡ falls_in l.number l.falls
