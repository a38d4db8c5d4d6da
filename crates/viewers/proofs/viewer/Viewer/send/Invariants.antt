use Rattle.std.proofs.Common.{◌≡◌}
use Rattle.viewers.proofs.viewer.Viewer.send.Given as goal

-- nothing more is said
abbrev pub invariant-loop : goal.invariant-loop
invariant-loop g l = l.self.said ≡ l.initial.self.said
