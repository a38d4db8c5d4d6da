use Rattle.std.proofs.Common.{◌≡◌, take}
use Rattle.books.specs.inner.Tally.{tally_of}
use Rattle.books.proofs.compare.tally_of.Given as goal

abbrev pub invariant-loop-i : goal.invariant-loop-i
invariant-loop-i l = l.tally ≡ tally_of (take l.i l.differences)
