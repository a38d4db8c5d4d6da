-- What holds of all votes if each follows the one before it.
use Rattle.std.specs.Prelude.{◌≡◌, ◌≢◌, ◌+◌, ◌≤◌, ◌⊎◌, ℕ, Some, List, [], slice_get}
use Rattle.notation.specs.declared.entry.Entry.{Entry}
use Rattle.agree_core.specs.declared.messages.DeskId.{DeskId}
use Rattle.agree_core.specs.Agreed.{EqualVotes, SettledIn, SettledAt, AllSettled, BeginsWith}
use Rattle.agree_core.specs.Ballots.{AllVotes, Ballot, In, VotesGrow, ballot_at, votes_by}
use Rattle.agree_core.specs.Books.{AllTaken, FirstRefused, Rules, book_of, voted_list}
use Rattle.agree_core.specs.Readers.{other}

-- a desk has one vote at a position
abbrev pub OneVoteEach : AllVotes → Type 0
OneVoteEach v =
    (d : DeskId) (b c : Ballot) → In b (votes_by v d) → In c (votes_by v d) → b.at ≡ c.at → b ≡ c

-- a vote of the next round shows that both desks voted in this round, and differed
abbrev pub RoundsDiffer : AllVotes → Type 0
RoundsDiffer v =
    (d : DeskId) (place round : ℕ) (g : Entry) → In (ballot_at place (round + 1) g) (votes_by v d)
    → (e : Entry) × (f : Entry) × In (ballot_at place round e) (votes_by v d)
    × In (ballot_at place round f) (votes_by v (other d)) × (e ≢ f)

-- a vote of the next place shows that this place is settled
abbrev pub PlacesSettled : AllVotes → Type 0
PlacesSettled v =
    (d : DeskId) (place : ℕ) (g : Entry) → In (ballot_at (place + 1) 0 g) (votes_by v d)
    → (e : Entry) × SettledAt v place e

-- a place has equal votes in only one round, and so for only one entry
abbrev pub SettledOnce : AllVotes → Type 0
SettledOnce v =
    (place r s : ℕ) (e f : Entry) → EqualVotes v place r e → EqualVotes v place s f → (r ≡ s) × (e ≡ f)

-- equal votes settle their place
abbrev pub EqualVotesSettle : AllVotes → Type 0
EqualVotesSettle v =
    (place round : ℕ) (e : Entry) → EqualVotes v place round e → SettledIn v place round e

-- of two lists of entries, each settled by some of these votes, one begins with the other
abbrev pub OneBook : AllVotes → Type 0
OneBook w =
    (u v : AllVotes) (xs ys : List Entry) → VotesGrow u w → VotesGrow v w
    → AllSettled u 0 xs → AllSettled v 0 ys → BeginsWith ys xs ⊎ BeginsWith xs ys

-- the book that a desk's file shows is settled
abbrev pub FilesSettled : AllVotes → Type 0
FilesSettled v = (d : DeskId) → AllSettled v 0 (book_of (votes_by v d))

-- this is the desk's last vote for its place
abbrev pub IsLastOfPlace : List Ballot → Ballot → Type 0
IsLastOfPlace votes b =
    In b votes × ((c : Ballot) → In c votes → c.at.place ≡ b.at.place → c.at.round ≤ b.at.round)

-- at each place that a desk voted for, the list by its votes has its last vote there
abbrev pub ListsLastVotes : List Ballot → Type 0
ListsLastVotes votes =
    (b : Ballot) → IsLastOfPlace votes b → slice_get (voted_list votes) b.at.place ≡ Some b.entry

-- these rules take the list whole, or refuse it first at one place
abbrev pub TakenOrRefused : {Why : Type 0} → Rules Why → List Entry → Type 0
TakenOrRefused rules xs =
    (AllTaken rules [] xs ⊎ ((place : ℕ) × FirstRefused rules [] xs place))
    × ((place : ℕ) → AllTaken rules [] xs → FirstRefused rules [] xs place → ⊥)
    × ((p q : ℕ) → FirstRefused rules [] xs p → FirstRefused rules [] xs q → p ≡ q)
