use Rattle.std.proofs.Common.{◌≡◌, ◌↔◌, take}
use Rattle.seal.proofs.datagram.is_tag.Given as goal

-- no difference so far
abbrev pub invariant-loop-i : goal.invariant-loop-i
invariant-loop-i l = (l.different ≡ 0) ↔ (take l.i l.bytes ≡ take l.i l.tag)
