use Rattle.std.proofs.Common.{◌≡◌, ◌↔◌, take}
use Rattle.posts.proofs.tags.is_same.Given as goal

-- no difference so far
abbrev pub invariant-loop-i : goal.invariant-loop-i
invariant-loop-i l = (l.different ≡ 0) ↔ (take l.i l.tag ≡ take l.i l.other)
