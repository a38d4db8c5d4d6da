-- Appending faults after others.
use Rattle.std.proofs.Common.{◌≡◌, ℕ, List, ◌++◌, append_assoc}
use Rattle.std.specs.Prelude.{Result, OnOk}
use Rattle.sheet_check.specs.Faults.{Fault, kind}

module _ {T E : Type 0} (r : Result T E) (old new : List Fault) where
  -- faults that are appended after others are appended together with them
  pub then_put : (mid fs gs : List Fault) → mid ≡ old ++ fs → OnOk r (new ≡ mid ++ gs) → OnOk r (new ≡ old ++ (fs ++ gs))
  then_put mid fs gs e k = rw (← append_assoc old fs gs, ← e) k

  -- the fault that a value is of another kind, at two equal places
  pub kind_at : (p q words : List ℕ) → p ≡ q → OnOk r (new ≡ old ++ kind p words) → OnOk r (new ≡ old ++ kind q words)
  kind_at p q words e k = rw (← e) k
