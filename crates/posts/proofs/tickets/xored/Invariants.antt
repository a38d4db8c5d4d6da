use Rattle.std.proofs.Common.{◌≡◌, length, take}
use Rattle.posts.specs.Tickets.{xored}
use Rattle.posts.proofs.tickets.xored.Given as goal

-- the bytes so far are XORed
abbrev pub invariant-loop-i : goal.invariant-loop-i
invariant-loop-i l = (length l.turned ≡ 16) × (take l.i l.turned ≡ take l.i (xored l.secret l.pad))
