-- Whether both desks' votes can be of one history.
--
-- If both desks voted alike in a round of a place, that settled the place, so neither votes in the next round.
-- If they voted differently, the next round follows, so neither goes straight to the next place. A desk that
-- went on without its votes, on a new file or an older copy, breaks this rule against the other desk's file.
use Rattle.std.specs.Prelude.{◌≡◌, ◌<◌, ℕ, ◌+◌, Bool, true, false, ◌&&◌, ◌||◌, not, if◌then◌else◌, List, ◌++◌, Option, Some, None, is_some, codes, decimal}
use Rattle.notation.specs.declared.entry.TheConstants.{PLACES}
use Rattle.agree_core.specs.declared.position.TheConstants.{ROUNDS}
use Rattle.agree_core.specs.Ballots.{AllVotes, Ballot}
use Rattle.books.specs.DeskVotes.{entry_at, is_alike}

-- a desk has a vote at this place and round
abbrev pub has_vote : List Ballot → ℕ → ℕ → Bool
has_vote votes place round = is_some (entry_at votes place round)

-- a desk went on as no desk does: after equal votes to the next round, or after different votes to the next
-- place without a vote in the next round
abbrev pub goes_wrong : Bool → List Ballot → ℕ → ℕ → Bool
goes_wrong alike votes place round =
    if alike then has_vote votes place (round + 1)
    else has_vote votes (place + 1) 0 && not (has_vote votes place (round + 1))

-- both desks voted in this round of a place, and one of them went on as no desk does
abbrev pub is_torn : AllVotes → ℕ → ℕ → Bool
is_torn v place round =
    has_vote v.a place round && has_vote v.b place round
    && (goes_wrong (is_alike (entry_at v.a place round) (entry_at v.b place round)) v.a place round
    || goes_wrong (is_alike (entry_at v.a place round) (entry_at v.b place round)) v.b place round)

-- torn in some round of this place; torn in none of its first n rounds; torn in no round of the first n places
abbrev pub IsTornAt : AllVotes → ℕ → Type 0
IsTornAt v place = (round : ℕ) × (is_torn v place round ≡ true)

abbrev pub IsWholeAt : AllVotes → ℕ → ℕ → Type 0
IsWholeAt v place n = (round : ℕ) → round < n → is_torn v place round ≡ false

abbrev pub IsWholeBelow : AllVotes → ℕ → Type 0
IsWholeBelow v n = (place : ℕ) → place < n → IsWholeAt v place ROUNDS

-- the first torn place, or that there is none: the votes are of one history
abbrev pub Tears : AllVotes → Option ℕ → Type 0
Tears v None = IsWholeBelow v PLACES
Tears v (Some place) = IsTornAt v place × IsWholeBelow v place

-- the line that is printed for a torn place
abbrev pub torn_line : ℕ → List ℕ
torn_line place = codes "not one history from place " ++ decimal place ++ codes " on: a file was lost or replaced\n"
