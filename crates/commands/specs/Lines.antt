-- The lines of a book: the full line of each entry, in order.
use Rattle.std.specs.Prelude.{◌≡◌, ℕ, ◌≤◌, List, ◌++◌, map, length, Ok, codes}
use Rattle.notation.specs.declared.{entry.Entry.Entry, entry.TheConstants.PLACES}
use Rattle.notation.specs.Lines.{lines_of}
use Rattle.notation.specs.Reading.{line_answer}
use Rattle.notation.specs.Written.{text_of}
use Rattle.cards.specs.Columns.{lines_from}

-- the line of an entry, whatever its place
abbrev pub full_line : ℕ → Entry → List ℕ
full_line place e = text_of e ++ codes "\n"

-- the lines of a book's entries, each as it was penned
abbrev pub lines_text : List Entry → List ℕ
lines_text book = lines_from full_line 0 book

-- reading the lines of these entries gives the same entries, one for each line; a book has places for all of them
pub record AreReadAgain (book : List Entry) : Type 0 where
  pub said : map line_answer (lines_of (lines_text book)) ≡ map Ok book
  pub places : length book ≤ PLACES
