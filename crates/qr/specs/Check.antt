-- The 20 error correction codewords: a Reed-Solomon code over the field of 256 elements.
use Rattle.std.specs.Prelude.{ℕ, ◌+◌, ◌-◌, ◌*◌, ◌/◌, ◌%◌, ◌^◌, ◌==◌, nat_lt, if◌then◌else◌, List, fold, map, replicate, bit_xor, slice_index}
use Rattle.std.specs.List.{range_with_len}
use Rattle.qr.specs.declared.check.TheConstants.{GENERATOR}

-- The field's elements are the numbers below 256, and its sum is bit_xor. Twice an element, where 256 counts as 0x1D.
abbrev pub doubled : ℕ → ℕ
doubled a = if nat_lt a 128 then 2 * a else bit_xor (2 * (a - 128)) 0x1D

-- extends the product of a and the first k bits of b by one more bit; the highest bit comes first
unfoldable pub times_bit : ℕ → ℕ → ℕ → ℕ → ℕ
times_bit a b product k = if b / 2 ^ (7 - k) % 2 == 1 then bit_xor (doubled product) a else doubled product

abbrev pub times : ℕ → ℕ → ℕ
times a b = fold (times_bit a b) 0 (range_with_len 0 8)

-- coefficient k after the remainder is shifted by one place and a multiple of the generator is subtracted
abbrev pub coefficient : List ℕ → ℕ → ℕ → ℕ
coefficient rest factor k = bit_xor (slice_index rest (k + 1)) (times factor (slice_index GENERATOR k))

-- the remainder after one more coefficient is divided
unfoldable pub divided : List ℕ → ℕ → List ℕ
divided rest codeword = map (coefficient rest (bit_xor (slice_index rest 0) codeword)) (range_with_len 0 20)

-- the remainder of the codewords followed by 20 zeros
abbrev pub check_codewords : List ℕ → List ℕ
check_codewords codewords = fold divided (replicate 20 0) codewords
