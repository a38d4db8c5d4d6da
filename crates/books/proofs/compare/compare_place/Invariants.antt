use Rattle.std.proofs.Common.{◌≡◌, ◌++◌}
use Rattle.std.specs.List.{All}
use Rattle.books.specs.Comparing.{HasEntries, in_rounds}
use Rattle.books.specs.DeskVotes.{votes_of_both}
use Rattle.books.proofs.compare.compare_place.Given as goal

abbrev pub invariant-loop-round : goal.invariant-loop-round
invariant-loop-round l =
    (l.found.items ≡ l.initial.found.items ++ in_rounds (votes_of_both l.fn.a l.fn.b) l.place l.round)
    × All HasEntries l.found.items
