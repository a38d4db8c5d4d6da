-- The players whom a name may mean if it isn't the last word of just one player's name.
use Rattle.std.specs.Prelude.{ℕ, Bool, List, filter}
use Rattle.std.specs.List.{list_any}
use Rattle.notation.specs.Written.{Token, tokens}
use Rattle.ball_laws.specs.Over.{numbers}
use Rattle.cards.specs.Sheet.{Team, player_in}
use Rattle.shorthand.specs.Names.{begins_with}

-- a word of the player's name begins with the token
abbrev pub has_beginning : Team → Token → ℕ → Bool
has_beginning team t n = list_any (λ w. begins_with w t) (tokens (player_in team n))

-- the players of the team of whose names some word begins so
unfoldable pub candidates : Team → Token → List ℕ
candidates team t = filter (λ n. has_beginning team t n) numbers
