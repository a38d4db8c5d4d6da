use Rattle.std.proofs.Common.{◌≡◌, ℕ, List, length, take}
use Rattle.seal.specs.Rings.{IsFormBy}
use Rattle.seal.proofs.ring.opened_by.Given as goal

-- nothing opened, and none of the seals so far opens it
abbrev pub invariant-loop-seal : goal.invariant-loop-seal
invariant-loop-seal l =
    (l.buffer ≡ l.initial.buffer)
    × ((message : List ℕ) → length message ≡ 48 → IsFormBy (take l.seal-index l.seals) message l.bytes → ⊥)
