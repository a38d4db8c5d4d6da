use Rattle.std.proofs.Common.{◌≡◌, map, take}
use Rattle.plans.proofs.target.is_same.Given as goal

abbrev pub invariant-loop-index : goal.invariant-loop-index
invariant-loop-index l = map (λ s. s.item) (take l.index l.items) ≡ map (λ s. s.item) (take l.index l.target)
