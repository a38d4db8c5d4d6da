-- How many calls on a stream have failed.
use Rattle.std.specs.Prelude.{ℕ, zero, suc, Bool, true, false}
use Rattle.streams.specs.declared.{failures.Failures.Failures, failures.Failures.NoneYet, failures.Failures.OneMore', watched.Health.Health}
use Rattle.streams.specs.declared.watched.Health.TheVariants.{Sound, Failed}

abbrev pub failure_count : Failures → ℕ
failure_count NoneYet = zero
failure_count (OneMore' marker before) = suc (failure_count before)

abbrev pub is_failed : Health → Bool
is_failed Sound = false
is_failed Failed = true
