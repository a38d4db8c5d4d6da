use Rattle.books.specs.DeskVotes.{votes_of_both}
use Rattle.books.specs.OneHistory.{IsWholeBelow}
use Rattle.books.proofs.one_history.first_torn.Given as goal

abbrev pub invariant-loop-place : goal.invariant-loop-place
invariant-loop-place l = IsWholeBelow (votes_of_both l.fn.a l.fn.b) l.place
