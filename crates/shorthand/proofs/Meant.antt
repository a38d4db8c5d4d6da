-- Whom a name may mean, in a list of all players.
use Rattle.std.proofs.Common.{◌≡◌, ℕ, List, filter, ap}
use Rattle.notation.specs.Written.{Token}
use Rattle.ball_laws.specs.Over.{numbers}
use Rattle.cards.specs.Sheet.{Team}
use Rattle.shorthand.specs.Candidates.{candidates, has_beginning}

pub of_all : (team : Team) (t : Token) (ns : List ℕ) → ns ≡ numbers → filter (λ n. has_beginning team t n) ns ≡ candidates team t
unfolding candidates
of_all team t ns e = ap (λ (xs : List ℕ). filter (λ n. has_beginning team t n) xs) e
