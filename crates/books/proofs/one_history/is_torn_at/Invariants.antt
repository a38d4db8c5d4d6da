use Rattle.books.specs.DeskVotes.{votes_of_both}
use Rattle.books.specs.OneHistory.{IsWholeAt}
use Rattle.books.proofs.one_history.is_torn_at.Given as goal

abbrev pub invariant-loop-round : goal.invariant-loop-round
invariant-loop-round l = IsWholeAt (votes_of_both l.fn.a l.fn.b) l.place l.round
