-- The values of an array, one item at a time.
use Rattle.std.proofs.Common.{List, ◌++◌, Result, Ok}
use Rattle.limits.specs.declared.unfit.Unfit.{Unfit}

-- the values of the front, followed by more
abbrev pub onto : {A : Type 0} → List A → List A → Result (List A) Unfit
onto front more = Ok (front ++ more)
