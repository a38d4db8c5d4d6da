-- How far apart the desks are, and when they are in step.
use Rattle.std.specs.Prelude.{◌≡◌, ◌≢◌, ◌⊎◌, ℕ, zero, suc, Some, None, List}
use Rattle.notation.specs.declared.entry.Entry.{Entry}
use Rattle.agree_core.specs.declared.{messages.DeskId.DeskId, position.Position.Position}
use Rattle.agree_core.specs.Agreed.{IsAgreedList}
use Rattle.agree_core.specs.Ballots.{AllVotes, Ballot, In, votes_by}
use Rattle.agree_core.specs.Desks.{DeskState}
use Rattle.agree_core.specs.Positions.{next_place, next_round}
use Rattle.agree_core.specs.Readers.{other}
use Rattle.agree_core.specs.Seats.{SeatState}
use Rattle.headline.specs.Configurations.{Configuration, all_votes, node}
use Rattle.progress.specs.CalmMoments.{IsUp}

-- the desk has voted at this position
abbrev pub HasVoted : AllVotes → DeskId → Position → Type 0
HasVoted v d p = (e : Entry) × In (record { at = p; entry = e }) (votes_by v d)

abbrev pub BothVoted : AllVotes → Position → Type 0
BothVoted v p = (d : DeskId) → HasVoted v d p

-- Both desks are up, at this position, with this book. The book is the agreed list of all votes, and not both have voted at the
-- position.
pub record InStep {Disk : Type 0} (w : Configuration Disk) (p : Position) (book : List Entry) : Type 0 where
  pub up : (d : DeskId) → (k : DeskState Disk) × IsUp (node w d) k × (k.seat.position ≡ p) × (k.book ≡ book)
  pub agreed : IsAgreedList (all_votes w) book
  pub one_waits : BothVoted (all_votes w) p → ⊥

-- the position that follows one at which the desks voted for these entries
abbrev pub IsAfter : Position → Entry → Entry → Position → Type 0
IsAfter p e f next = ((e ≡ f) × (next ≡ next_place p)) ⊎ ((e ≢ f) × (next ≡ next_round p))

-- A seat is one position behind another desk's: it has cast at its position, and hasn't noted the other's vote for it, which is
-- among these.
abbrev pub IsBehind : List Ballot → SeatState → Position → Type 0
IsBehind theirs s next =
    (e : Entry) × (f : Entry) × (s.mine ≡ Some e) × (s.theirs ≡ None)
    × In (record { at = s.position; entry = f }) theirs × IsAfter s.position e f next

-- the position is n positions behind the votes: both desks have voted for it and for the next ones, n in all
abbrev pub IsBehindBy : AllVotes → Position → ℕ → Type 0
IsBehindBy v p zero = BothVoted v p → ⊥
IsBehindBy v p (suc n) =
    (e : Entry) × (f : Entry) × (next : Position) × In (record { at = p; entry = e }) v.a × In (record { at = p; entry = f }) v.b
    × IsAfter p e f next × IsBehindBy v next n

-- each desk that is up has noted the other's vote for its position, if one is cast
abbrev pub EachKnows : {Disk : Type 0} → Configuration Disk → Type 0
EachKnows w =
    (d : DeskId) (k : DeskState _) (e : Entry) → IsUp (node w d) k
    → In (record { at = k.seat.position; entry = e }) (votes_by (all_votes w) (other d)) → k.seat.theirs ≡ Some e
