-- The cells of a row, and the text of rows.
use Rattle.std.specs.Prelude.{◌≡◌, ℕ, ◌==◌, Bool, false, ◌||◌, if◌then◌else◌, List, [], ◌∷◌, ◌++◌, Result, OnOk}
use Rattle.std.specs.List.{flat_map}
use Rattle.csv.specs.Writing.{comma, default_writer, field_text, row_text}

-- what a spreadsheet takes at the front of a cell as the start of a formula (= + - @), or skips before it (a tab, a line feed
-- or a carriage return)
abbrev pub is_sign : ℕ → Bool
is_sign c = (((c == 61) || (c == 43)) || ((c == 45) || (c == 64))) || (((c == 9) || (c == 10)) || (c == 13))

-- a text begins with such a sign, after any quotes of its own
abbrev pub is_formula : List ℕ → Bool
is_formula [] = false
is_formula (c ∷ cs) = if c == 39 then is_formula cs else is_sign c

-- the cell of a text: such a text has one more quote before it, so that no spreadsheet runs it
abbrev pub cell : List ℕ → List ℕ
cell text = if is_formula text then 39 ∷ text else text

-- rows as CSV text by RFC 4180, except that a line ends with a line feed alone
unfoldable pub rows_text : List (List (List ℕ)) → List ℕ
rows_text rows = flat_map (row_text default_writer) rows

-- ---- for private functions: a call adds cells to a row, or rows to a text, if it succeeds

-- the text of a cell that isn't the first of its row: a comma, and the cell by RFC 4180
unfoldable pub cell_text : List ℕ → List ℕ
cell_text cell = comma ∷ field_text default_writer cell

-- the text of such cells
unfoldable pub cells_text : List (List ℕ) → List ℕ
cells_text cells = flat_map cell_text cells

abbrev pub PutsCells : {T E : Type 0} → Result T E → List ℕ → List ℕ → List (List ℕ) → Type 0
PutsCells answer old new cells = OnOk answer (new ≡ old ++ cells_text cells)

abbrev pub PutsRows : {T E : Type 0} → Result T E → List ℕ → List ℕ → List (List (List ℕ)) → Type 0
PutsRows answer old new rows = OnOk answer (new ≡ old ++ rows_text rows)
