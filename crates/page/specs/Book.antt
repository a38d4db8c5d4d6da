-- The corrections and late entries of a book.
use Rattle.std.specs.Prelude.{ℕ, List, [], ◌∷◌, ◌++◌, Option, Some, None, length, slice_get, codes, decimal}
use Rattle.notation.specs.declared.entry.Entry.{Entry}
use Rattle.notation.specs.declared.entry.Entry.TheVariants.{Write, Fix, Late}
use Rattle.notation.specs.Written.{text_of}
use Rattle.cards.specs.Columns.{lines_from}
use Rattle.page.specs.Escapes.{escaped}
use Rattle.page.specs.declared.book_part.TheConstants.{BOOK, CORRECTIONS}

abbrev pub line_html : Entry → List ℕ
line_html e = codes "<code>" ++ escaped (text_of e) ++ codes "</code>"

-- the line at a place, as it was penned
abbrev pub line_at : Option Entry → List ℕ
line_at None = []
line_at (Some e) = line_html e

abbrev pub place_html : ℕ → List ℕ
place_html place = codes "<tr><th scope='row'>" ++ (decimal place ++ codes "</th><td class='words'>")

-- the row of a correction or a late entry: its place and line, and the line that it names
abbrev pub row_html : List Entry → ℕ → Entry → List ℕ → ℕ → List ℕ
row_html book place e words named =
    place_html place ++ line_html e ++ words ++ line_at (slice_get book named) ++ codes "</td></tr>\n"

abbrev pub correction_html : List Entry → ℕ → Entry → List ℕ
correction_html book place (Write x) = []
correction_html book place (Fix p x) = row_html book place (Fix p x) (codes "</td><td class='words'>entered as ") p
correction_html book place (Late p x) = row_html book place (Late p x) (codes "</td><td class='words'>belongs after ") p

abbrev pub rows_html : List ℕ → List ℕ
rows_html rows = CORRECTIONS.now ++ rows ++ codes "</tbody></table></details>\n"

-- these rows as a table that can be folded, or that there is no correction
abbrev pub fold_html : List ℕ → List ℕ
fold_html [] = codes "<p>None of them is a correction.</p>\n"
fold_html (b ∷ bs) = rows_html (b ∷ bs)

abbrev pub count_html : ℕ → List ℕ
count_html lines = codes "<p>Lines: " ++ (decimal lines ++ codes "</p>\n")

abbrev pub book_html : List Entry → List ℕ
book_html book =
    BOOK.now ++ count_html (length book) ++ fold_html (lines_from (correction_html book) 0 book) ++ codes "</section>\n"
