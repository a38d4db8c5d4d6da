use Rattle.std.proofs.Common.{◌≡◌, ℕ, List, arith, length, sym, take}
use Rattle.std.proofs.lemmas.List.{length-take-le}
use Rattle.seal.proofs.link.keep.Goals as goal

in_front : (bytes : List ℕ) → length bytes ≡ 80 → length (take 48 bytes) ≡ 48
in_front bytes size = length-take-le 48 bytes (omega (arith, size))

pub slice_bounds-copy_from_slice-end-2 : goal.slice_bounds-copy_from_slice-end-2
slice_bounds-copy_from_slice-end-2 c = let size = in_front c.args.bytes.now c.if-bytes-ne-SEALED_WITH_RECEIPT.false in omega (arith, size)

pub copy_from_slice-requires : goal.copy_from_slice-requires
copy_from_slice-requires c = sym (in_front c.args.bytes.now c.if-bytes-ne-SEALED_WITH_RECEIPT.false)
