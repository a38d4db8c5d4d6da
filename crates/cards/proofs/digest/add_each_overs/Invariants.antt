use Rattle.std.proofs.Common.{◌≡◌, ◌++◌, ℕ, List, drop}
use Rattle.sha2.specs.Hashers.{Holds256}
use Rattle.cards.specs.Digest.{each_overs}
use Rattle.cards.proofs.digest.add_each_overs.Given as goal

-- once the numbers that are left are added, all are
abbrev pub invariant-loop-number : goal.invariant-loop-number
invariant-loop-number l =
    (m : List ℕ) → Holds256 l.initial.hasher m → (k : List ℕ) × (Holds256 l.hasher k × (k ++ each_overs (drop l.number-index l.overs) ≡ m ++ each_overs l.overs))
