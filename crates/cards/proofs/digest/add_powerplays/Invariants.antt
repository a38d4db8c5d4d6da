use Rattle.std.proofs.Common.{◌≡◌, ◌++◌, ℕ, List, drop}
use Rattle.sha2.specs.Hashers.{Holds256}
use Rattle.cards.specs.Digest.{each_powerplay}
use Rattle.cards.proofs.digest.add_powerplays.Given as goal

-- once the powerplays that are left are added, all are
abbrev pub invariant-loop-powerplay : goal.invariant-loop-powerplay
invariant-loop-powerplay l =
    (m : List ℕ) → Holds256 l.initial.hasher m → (k : List ℕ) × (Holds256 l.hasher k × (k ++ each_powerplay (drop l.powerplay-index l.powerplays) ≡ m ++ each_powerplay l.powerplays))
