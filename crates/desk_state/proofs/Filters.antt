-- The numbers that pass a filter, put one by one.
use Rattle.std.proofs.Common.{arith, ◌≡◌, ℕ, Bool, List, ◌∷◌, ◌++◌}
use Rattle.std.specs.Prelude.{filter, map}
use Rattle.json_fields.specs.Values.{number_value}
use Rattle.desk_state.specs.inner.Items.{number_if}

pub first_wanted : (may : ℕ → Bool) (n : ℕ) (ns : List ℕ)
    → number_if (may n) n ++ map number_value (filter may ns) ≡ map number_value (filter may (n ∷ ns))
first_wanted may n ns = grind arith
