-- What `check` writes for pen lines: a line for each one that isn't taken, and then the board of the lines that are.
use Rattle.std.specs.Prelude.{ℕ, ◌+◌, List, [], ◌∷◌, ◌++◌, Bool, true, false, ◌||◌, Result, Ok, Err}
use Rattle.notation.specs.declared.entry.Entry.{Entry}
use Rattle.corrections.specs.CleanList.{history_of}
use Rattle.cards.specs.Board.{board}
use Rattle.cards.specs.Sheet.{Sheet, plain_sheet}
use Rattle.books.specs.declared.rejected.Rejected.{Rejected}
use Rattle.notation.specs.Lines.{lines_of}
use Rattle.books.specs.Taking.{answer_to, book_after, with_taken}
use Rattle.books.specs.Rejected.{rejection_line}

-- what is printed for line n
abbrev pub printed : ℕ → Result Entry Rejected → List ℕ
printed n (Ok e) = []
printed n (Err why) = rejection_line n why

abbrev pub is_rejected : Result Entry Rejected → Bool
is_rejected (Ok e) = false
is_rejected (Err why) = true

-- what is printed for these lines, numbered from n
abbrev pub rejections : ℕ → ℕ → List Entry → List (List ℕ) → List ℕ
rejections innings n book [] = []
rejections innings n book (line ∷ lines) =
    printed n (answer_to innings book line)
    ++ rejections innings (n + 1) (with_taken (answer_to innings book line) book) lines

-- whether one of these lines isn't taken
abbrev pub has_rejected : ℕ → List Entry → List (List ℕ) → Bool
has_rejected innings book [] = false
has_rejected innings book (line ∷ lines) =
    is_rejected (answer_to innings book line)
    || has_rejected innings (with_taken (answer_to innings book line) book) lines

-- the sheet of a match without one: the plain sheet, with match number 0
abbrev pub sheet : ℕ → Sheet
sheet innings = plain_sheet 0 innings

-- the board of a book: the Laws' figures of its clean list, with the plain names
abbrev pub board_of_book : ℕ → List Entry → List ℕ
board_of_book innings book = board (sheet innings) innings (history_of book)

-- all that is written for an input, in a match with these innings a side
abbrev pub output_of : ℕ → List ℕ → List ℕ
output_of innings input =
    rejections innings 1 [] (lines_of input) ++ board_of_book innings (book_after innings [] (lines_of input))
