use Rattle.std.proofs.Common.{◌≡◌, ◌<◌, ◌≤◌, ◌+◌, ◌*◌, ◌%◌, ℕ, arith}
use Rattle.std.proofs.Math.Nat.{div-add-mod}
use Rattle.std.proofs.lemmas.Nat.{mod_below}
use Rattle.limits.specs.Rates.{hundredths}
use Rattle.limits.proofs.rates.hundredths_are_nearest.Goals as goal

-- if a product p and a rest r below twice d make a + d, then p is within d of a
within : (p r a d : ℕ) → p + r ≡ a + d → r < 2 * d → (p ≤ a + d) × (a < p + d)
within p r a d e less = (omega (arith, e, less), omega (arith, e, less))

pub returns : goal.returns
returns c = λ n d some.
    let near = within (2 * d * hundredths n d) ((200 * n + d) % (2 * d)) (200 * n) d (div-add-mod (200 * n + d) (2 * d))
    (mod_below (200 * n + d) (2 * d) (omega (arith, some))) in
    record { not_less = near.0; less = near.1 }
