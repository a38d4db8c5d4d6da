use Rattle.std.proofs.Common.{◌≡◌, ◌<◌, ℕ, get_or, length}
use Rattle.qr.specs.Check.{coefficient}
use Rattle.qr.proofs.check.divided.Given as goal

abbrev pub invariant-loop-k : goal.invariant-loop-k
invariant-loop-k l = record {
  len : length l.left ≡ 20;
  each : (i : ℕ) → i < l.k → get_or l.left i 0 ≡ coefficient l.rest l.factor i;
}
