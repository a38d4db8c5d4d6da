use Rattle.std.proofs.Common.{◌≡◌, ◌+◌, ◌++◌, drop}
use Rattle.arrayvec.specs.ArrayVec.{array_vec_len}
use Rattle.qr.specs.Content.{text_codewords}
use Rattle.qr.proofs.ContentLemmas.{rest_codewords}
use Rattle.qr.proofs.content.put_text.Given as goal

-- the codewords put so far and those of the rest together are all
abbrev pub invariant-loop-byte : goal.invariant-loop-byte
invariant-loop-byte l = record {
  whole : l.codewords.items ++ rest_codewords l.before (drop l.byte-index l.text) ≡ text_codewords l.text;
  len : array_vec_len l.codewords ≡ l.byte-index + 1;
}
