use Rattle.std.proofs.Common.{◌≡◌, ℕ, ◌*◌, ◌<◌, Some}
use Rattle.std.specs.Prelude.{slice_get}
use Rattle.setup.specs.declared.counting.TheConstants.{OPEN_GATE}
use Rattle.setup.proofs.counting.blocks_of.Given as goal

abbrev pub invariant-loop-count : goal.invariant-loop-count
invariant-loop-count l = (k : ℕ) → 0 < k → k < l.count → slice_get l.bytes (64 * k) ≡ Some OPEN_GATE
