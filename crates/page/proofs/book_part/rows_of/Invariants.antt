use Rattle.std.proofs.Common.{◌≡◌, ◌++◌, drop}
use Rattle.std.specs.Prelude.{string_bytes}
use Rattle.cards.specs.Columns.{lines_from}
use Rattle.page.specs.Book.{correction_html}
use Rattle.page.proofs.book_part.rows_of.Given as goal

-- the rows so far and the rows of the entries left are all rows
abbrev pub invariant-loop-place : goal.invariant-loop-place
invariant-loop-place g l =
    let book = g.B.BookOf.content l.book in
    string_bytes l.out ++ lines_from (correction_html book) l.place (drop l.place book) ≡ lines_from (correction_html book) 0 book
