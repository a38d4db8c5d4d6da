use Rattle.std.proofs.Common.{◌<◌, ℕ, arith, ◌∙◌, length, slice_index, bit_xor}
use Rattle.std.proofs.lemmas.List.{length-set}
use Rattle.std.proofs.lemmas.List.Edits.{fill_by_more}
use Rattle.std.proofs.lemmas.List.FromFn.{fill_by_all}
use Rattle.qr.specs.Check.{coefficient, divided}
use Rattle.qr.proofs.check.divided.Goals as goal

pub loop-k-preserved : goal.loop-k-preserved
loop-k-preserved c =
    let value : ℕ → ℕ = coefficient c.args.rest.now (bit_xor (slice_index c.args.rest.now 0) c.args.codeword) in
    let within : c.loop-k.k < length c.loop-k.left = omega (arith, c.loop-k.invariant.len) in record {
      len = length-set _ _ _ ∙ c.loop-k.invariant.len;
      each = rw c.coefficient.ensures (fill_by_more value c.loop-k.left c.loop-k.k 0 within c.loop-k.invariant.each);
    }

pub returns : goal.returns
unfolding divided
returns c =
    let value : ℕ → ℕ = coefficient c.args.rest.now (bit_xor (slice_index c.args.rest.now 0) c.args.codeword) in
    fill_by_all value c.loop-k.left 20 0 c.loop-k.invariant.len (λ (i : ℕ) (h : i < 20). c.loop-k.invariant.each i (omega arith))
