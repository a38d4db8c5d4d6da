-- Which modules of a code are dark. A module's place is 33 times its row plus its column.
use Rattle.std.specs.Prelude.{◌≡◌, ℕ, ◌+◌, ◌-◌, ◌*◌, ◌/◌, ◌%◌, ◌^◌, ◌<◌, ◌==◌, ◌&&◌, nat_lt, if◌then◌else◌, Bool, false, not, List, filter, map, length}
use Rattle.std.specs.Prelude.{slice_index, slice_index_or}
use Rattle.std.specs.List.{range_with_len}
use Rattle.qr.specs.declared.code.Code.{Code}
use Rattle.qr.specs.declared.pattern.TheConstants.{MODULES, PATTERN, SIDE}
use Rattle.qr.specs.declared.placing.TheConstants.{STEPS}
use Rattle.qr.specs.Content.{codewords}

-- a data module: `-` in the pattern
abbrev pub is_data : ℕ → Bool
is_data at = slice_index PATTERN.now at == 45

-- a module that is dark in every code: `#` in the pattern
abbrev pub is_dark_in_all : ℕ → Bool
is_dark_in_all at = slice_index PATTERN.now at == 35

-- the placement path: up and down in columns of two modules, from the right, without the column of the timing pattern
abbrev pub place : ℕ → ℕ
place step =
    let pair = step / 66 in
    let right = if nat_lt pair 13 then 32 - 2 * pair else 31 - 2 * pair in
    let down = step % 66 / 2 in
    let row = if pair % 2 == 0 then 32 - down else down in
    33 * row + right - step % 2

-- the data modules among the first steps
abbrev pub data_places : ℕ → List ℕ
data_places steps = filter is_data (map place (range_with_len 0 steps))

-- a bit of the codewords is set; the highest bit of each comes first, and no bit after the last codeword is set
abbrev pub is_set : List ℕ → ℕ → Bool
is_set codewords bit = slice_index codewords (bit / 8) / 2 ^ (7 - bit % 8) % 2 == 1

-- the mask inverts every second module, like a chessboard: as a row has 33 modules, these are the ones at even places
abbrev pub masked : ℕ → Bool → Bool
masked at dark = if at % 2 == 0 then not dark else dark

abbrev pub unmasked : List Bool → ℕ → Bool
unmasked modules at = masked at (slice_index_or modules at false)

-- Unmasked, the data modules are the bits of the codewords, and 7 that aren't set. All other modules are as in every code.
pub record IsPlaced (codewords : List ℕ) (modules : List Bool) : Type 0 where
  pub whole : length modules ≡ MODULES
  pub bits : map (unmasked modules) (data_places STEPS) ≡ map (is_set codewords) (range_with_len 0 807)
  pub pattern : (at : ℕ) → at < MODULES → is_data at ≡ false → slice_index_or modules at false ≡ is_dark_in_all at

-- the code has the modules of the text's codewords
abbrev pub IsCodeOf : List ℕ → Code → Type 0
IsCodeOf text code = IsPlaced (codewords text) code.modules

-- the module at a row and column; none outside the code is dark
abbrev pub is_dark : Code → ℕ → ℕ → Bool
is_dark code row column =
    if nat_lt row SIDE && nat_lt column SIDE then slice_index_or code.modules (SIDE * row + column) false else false
