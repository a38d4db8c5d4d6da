-- The codewords of a text in bytes.
use Rattle.std.specs.Prelude.{ℕ, ◌+◌, ◌-◌, ◌*◌, ◌/◌, ◌%◌, ◌==◌, if◌then◌else◌, List, [], ◌∷◌, ◌++◌, map, length}
use Rattle.std.specs.List.{flat_map, range_with_len}
use Rattle.qr.specs.declared.content.TheConstants.{LONGEST}
use Rattle.qr.specs.Check.{check_codewords}

-- a byte as its two halves, of four bits each
abbrev pub halves : ℕ → List ℕ
halves b = b / 16 ∷ b % 16 ∷ []

-- joins each two halves into a codeword
abbrev pub joined : List ℕ → List ℕ
joined (high ∷ low ∷ rest) = (high * 16 + low) ∷ joined rest
joined _ = []

-- the mode for bytes, the number of bytes, the bytes, and the terminator
abbrev pub text_codewords : List ℕ → List ℕ
text_codewords text = joined (4 ∷ flat_map halves (length text ∷ text) ++ 0 ∷ [])

-- the pad codewords after the terminator: these two alternate
abbrev pub pad : ℕ → ℕ
pad k = if k % 2 == 0 then 0xEC else 0x11

abbrev pub pads : ℕ → List ℕ
pads count = map pad (range_with_len 0 count)

-- the 80 codewords of data
abbrev pub data_codewords : List ℕ → List ℕ
data_codewords text = text_codewords text ++ pads (LONGEST - length text)

-- all codewords
abbrev pub codewords : List ℕ → List ℕ
codewords text = data_codewords text ++ check_codewords (data_codewords text)
