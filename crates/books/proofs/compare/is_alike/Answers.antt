use Rattle.books.proofs.Differences.{alike}
use Rattle.books.proofs.compare.is_alike.Goals as goal

pub returns-in-Some-Some : goal.returns-in-Some-Some
returns-in-Some-Some c =
    rw (c.in-Some-Some.is-0, c.in-Some-Some.is-1)
    (alike c.is_same.result c.in-Some-Some.first c.in-Some-Some.second (rw c.in-Some-Some.is-0 at c.requires.first) (rw c.in-Some-Some.is-1 at c.requires.second) c.is_same.ensures)
