use Rattle.std.proofs.Common.{◌≡◌, ◌+◌, ◌++◌}
use Rattle.arrayvec.specs.ArrayVec.{array_vec_len}
use Rattle.qr.specs.Content.{pads}
use Rattle.qr.proofs.content.put_pads.Given as goal

abbrev pub invariant-loop-k : goal.invariant-loop-k
invariant-loop-k l = record {
  put : l.codewords.items ≡ l.initial.codewords.items ++ pads l.k;
  len : array_vec_len l.codewords ≡ array_vec_len l.initial.codewords + l.k;
}
