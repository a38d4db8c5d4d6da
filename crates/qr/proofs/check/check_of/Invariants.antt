use Rattle.std.proofs.Common.{◌≡◌, take, replicate}
use Rattle.std.specs.Prelude.{fold}
use Rattle.qr.specs.Check.{divided}
use Rattle.qr.proofs.check.check_of.Given as goal

abbrev pub invariant-loop-codeword : goal.invariant-loop-codeword
invariant-loop-codeword l = l.rest ≡ fold divided (replicate 20 0) (take l.codeword-index l.codewords)
