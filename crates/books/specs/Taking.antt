-- Which lines are taken, after the entries taken so far, in a match of this many innings a side.
use Rattle.std.specs.Prelude.{ℕ, Bool, nat_le, if◌then◌else◌, List, [], ◌∷◌, ◌++◌, length}
use Rattle.std.specs.Prelude.{Option, Some, None, Result, Ok, Err}
use Rattle.notation.specs.declared.{entry.Entry.Entry, entry.TheConstants.PLACES, fault.LineFault.LineFault}
use Rattle.notation.specs.Reading.{line_answer}
use Rattle.corrections.specs.declared.refusal.Refusal.{Refusal as BookRefusal}
use Rattle.corrections.specs.Refusal.{book_refusal}
use Rattle.books.specs.declared.rejected.Refusal.TheVariants.{PlacesFull, Book}
use Rattle.books.specs.declared.rejected.Rejected.{Rejected}
use Rattle.books.specs.declared.rejected.Rejected.TheVariants.{Fault, Refused}

-- all of a book's places are taken
abbrev pub is_full : List Entry → Bool
is_full book = nat_le PLACES (length book)

-- the entry, unless the book refuses it
abbrev pub unless_refused : Option BookRefusal → Entry → Result Entry Rejected
unless_refused None e = Ok e
unless_refused (Some why) e = Err (Refused (Book why))

-- the book's answer to an entry: the entry, to be taken, or why it isn't taken
abbrev pub taking : ℕ → List Entry → Entry → Result Entry Rejected
taking innings book e =
    if is_full book then Err (Refused PlacesFull) else unless_refused (book_refusal innings book e) e

-- the answer to a line as it was read
abbrev pub answer : ℕ → List Entry → Result Entry LineFault → Result Entry Rejected
answer innings book (Err fault) = Err (Fault fault)
answer innings book (Ok e) = taking innings book e

-- the answer to a line, after the entries taken so far
abbrev pub answer_to : ℕ → List Entry → List ℕ → Result Entry Rejected
answer_to innings book line = answer innings book (line_answer line)

-- the entries taken after this answer
abbrev pub with_taken : Result Entry Rejected → List Entry → List Entry
with_taken (Ok e) book = book ++ e ∷ []
with_taken (Err why) book = book

-- the entries taken before, and those taken from these lines
abbrev pub book_after : ℕ → List Entry → List (List ℕ) → List Entry
book_after innings book [] = book
book_after innings book (line ∷ lines) = book_after innings (with_taken (answer_to innings book line) book) lines
