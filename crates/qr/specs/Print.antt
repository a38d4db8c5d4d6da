-- The printed text of a code.
use Rattle.std.specs.Prelude.{ℕ, ◌+◌, ◌-◌, ◌*◌, ◌||◌, nat_lt, if◌then◌else◌, Bool, true, false, List, [], ◌∷◌, ◌++◌, codes}
use Rattle.std.specs.List.{flat_map, range_with_len}
use Rattle.qr.specs.declared.code.Code.{Code}
use Rattle.qr.specs.declared.printing.TheConstants.{MARGIN}
use Rattle.qr.specs.Modules.{is_dark}

-- two modules, one above the other: a space, U+2584, U+2580 in UTF-8, or a space on black
abbrev pub block : Bool → Bool → List ℕ
block false false = 32 ∷ []
block false true = 226 ∷ 150 ∷ 132 ∷ []
block true false = 226 ∷ 150 ∷ 128 ∷ []
block true true = 27 ∷ codes "[48;5;16m " ++ 27 ∷ codes "[48;5;231m"

-- a module of a code with its margin of 4
abbrev pub is_dark_within : Code → ℕ → ℕ → Bool
is_dark_within code row column =
    if nat_lt row MARGIN || nat_lt column MARGIN then false else is_dark code (row - MARGIN) (column - MARGIN)

abbrev pub block_at : Code → ℕ → ℕ → List ℕ
block_at code row column = block (is_dark_within code (2 * row) column) (is_dark_within code (2 * row + 1) column)

-- the characters of a row
abbrev pub blocks : Code → ℕ → List ℕ
blocks code row = flat_map (block_at code row) (range_with_len 0 41)

-- a row, black on white
abbrev pub row_text : Code → ℕ → List ℕ
row_text code row = 27 ∷ codes "[38;5;16;48;5;231m" ++ blocks code row ++ 27 ∷ codes "[0m\n"

-- the next row, as half of the margin is left out above and below
abbrev pub row_behind : Code → ℕ → List ℕ
row_behind code row = row_text code (row + 1)

abbrev pub printed : Code → List ℕ
printed code = flat_map (row_behind code) (range_with_len 0 19)
