-- One call of a file after another.
use Rattle.std.proofs.Common.{inl, inr, List, ◌∷◌, Option, Some, None, Result, Ok, Err, OnErr}
use Rattle.machine_files.specs.Calls.{Call, Asked, Done, Failed, Adds, AddsUntilFailed, FailsAmid}

-- the first of these calls failed
pub first_failed : (old new : Option (List Call)) (first : Asked) (rest : List Asked)
    → Adds old new (Failed first) → AddsUntilFailed old new (first ∷ rest)
unfolding FailsAmid
first_failed None new first rest added = added
first_failed (Some old) new first rest added = inl added

-- the first call was done, and one of the others failed
pub later_failed : (old mid new : Option (List Call)) (first : Asked) (rest : List Asked)
    → Adds old mid (Done first) → AddsUntilFailed mid new rest → AddsUntilFailed old new (first ∷ rest)
unfolding FailsAmid
later_failed None mid new first rest added later = rw added at later
later_failed (Some old) mid new first rest added later = inr (rw added at later)

-- what holds anyway also holds after a failure
pub after_failure : {T E : Type 0} (answer : Result T E) (fact : Type 0) → fact → OnErr answer fact
after_failure (Ok _) fact holds = tt
after_failure (Err _) fact holds = holds

-- what follows from what a failure says holds after a failure
pub told_by_failure : {T E : Type 0} (answer : Result T E) (told fact : Type 0) → (told → fact) → OnErr answer told
    → OnErr answer fact
told_by_failure (Ok _) told fact follows holds = tt
told_by_failure (Err _) told fact follows holds = follows holds
