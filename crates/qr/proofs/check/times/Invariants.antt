use Rattle.std.proofs.Common.{◌≡◌}
use Rattle.std.specs.Prelude.{fold}
use Rattle.std.specs.List.{range_with_len}
use Rattle.qr.specs.Check.{times_bit}
use Rattle.qr.proofs.check.times.Given as goal

abbrev pub invariant-loop-k : goal.invariant-loop-k
invariant-loop-k l = l.product ≡ fold (times_bit l.one l.other) 0 (range_with_len 0 l.k)
