use Rattle.books.proofs.EnteredSoFar.{Entered}
use Rattle.books.proofs.both.book_of_entries.Given as goal

abbrev pub invariant-loop-i : goal.invariant-loop-i
invariant-loop-i l = Entered l.innings l.entries l.i l.book
