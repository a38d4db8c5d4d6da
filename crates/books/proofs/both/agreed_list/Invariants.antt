use Rattle.books.specs.DeskVotes.{read_votes}
use Rattle.books.proofs.AgreedSoFar.{AgreedSoFar}
use Rattle.books.proofs.both.agreed_list.Given as goal

abbrev pub invariant-loop-i : goal.invariant-loop-i
invariant-loop-i l = AgreedSoFar (read_votes l.fn.a) (read_votes l.fn.b) l.i l.list.items
