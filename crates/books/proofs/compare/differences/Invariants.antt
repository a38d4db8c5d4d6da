use Rattle.std.proofs.Common.{◌≡◌}
use Rattle.std.specs.List.{All}
use Rattle.books.specs.Comparing.{HasEntries, in_places}
use Rattle.books.specs.DeskVotes.{votes_of_both}
use Rattle.books.proofs.compare.differences.Given as goal

abbrev pub invariant-loop-place : goal.invariant-loop-place
invariant-loop-place l =
    (l.found.items ≡ in_places (votes_of_both l.fn.a l.fn.b) l.place) × All HasEntries l.found.items
