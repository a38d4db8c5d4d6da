-- What a reader tests: the polynomial of the codewords is 0 at 20 elements of the field.
use Rattle.std.specs.Prelude.{◌≡◌, ◌<◌, ℕ, zero, suc, List, fold, bit_xor}
use Rattle.qr.specs.Check.{doubled}

-- an element times 2^j
abbrev pub times_power : ℕ → ℕ → ℕ
times_power zero a = a
times_power (suc j) a = doubled (times_power j a)

-- the value at 2^j, extended by one more coefficient
abbrev pub next : ℕ → ℕ → ℕ → ℕ
next j value coefficient = bit_xor (times_power j value) coefficient

-- the value at 2^j of the polynomial with these coefficients, the highest first
abbrev pub value_at : ℕ → List ℕ → ℕ
value_at j coefficients = fold (next j) 0 coefficients

-- 2^0, 2^1 and so on up to 2^19 are its roots
abbrev pub HasRoots : List ℕ → Type 0
HasRoots coefficients = (j : ℕ) → j < 20 → value_at j coefficients ≡ 0
