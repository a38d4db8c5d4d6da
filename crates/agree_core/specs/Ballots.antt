-- What the desks voted: each desk's votes are a list of ballots, newest first.
use Rattle.std.specs.Prelude.{◌≡◌, ◌≢◌, ◌-◌, ◌⊎◌, ℕ, List, [], ◌∷◌, length, drop}
use Rattle.notation.specs.declared.entry.Entry.{Entry}
use Rattle.agree_core.specs.declared.{messages.DeskId.DeskId, messages.Vote.Vote, position.Position.Position}
use Rattle.agree_core.specs.declared.messages.DeskId.TheVariants.{A, B}
use Rattle.agree_core.specs.Positions.{InRange, first, next_place, next_round, position_of}

-- a desk's number in files and in datagrams
abbrev pub desk_number : DeskId → ℕ
desk_number A = 1
desk_number B = 2

-- an entry that a desk voted for at a position
pub record Ballot : Type 0 where
  pub at : Position
  pub entry : Entry

abbrev pub ballot_at : ℕ → ℕ → Entry → Ballot
ballot_at place round e = record { at = record { place = place; round = round }; entry = e }

abbrev pub ballot_of : Vote → Ballot
ballot_of v = record { at = position_of v; entry = v.entry }

abbrev pub vote_of : DeskId → Ballot → Vote
vote_of d b = record { desk = d; place = b.at.place; round = b.at.round; entry = b.entry }

-- the ballot is in the list
abbrev pub In : Ballot → List Ballot → Type 0
In b [] = ⊥
In b (c ∷ cs) = (b ≡ c) ⊎ In b cs

-- the n ballots that were cast first
abbrev pub oldest : ℕ → List Ballot → List Ballot
oldest n votes = drop (length votes - n) votes

-- a ballot is the first of all, or is for the next round or the next place after the ballot before it
abbrev pub ComesNext : Ballot → List Ballot → Type 0
ComesNext c [] = c.at ≡ first
ComesNext c (b ∷ bs) = (c.at ≡ next_round b.at) ⊎ (c.at ≡ next_place b.at)

-- positions go up by a round or a place from the first, and none is full
abbrev pub IsSequence : List Ballot → Type 0
IsSequence [] = Unit {0}
IsSequence (b ∷ bs) = InRange b.at × ComesNext b bs × IsSequence bs

-- the other desk voted for another entry at this ballot's position
abbrev pub Differed : List Ballot → Ballot → Type 0
Differed theirs b = (e : Entry) × In (record { at = b.at; entry = e }) theirs × (b.entry ≢ e)

-- a ballot is the first of all, or follows the one before it by the other desk's vote there: in the next round if the
-- votes differed, or at the next place if they were equal
abbrev pub Follows : List Ballot → Ballot → List Ballot → Type 0
Follows theirs c [] = c.at ≡ first
Follows theirs c (b ∷ bs) =
    ((c.at ≡ next_round b.at) × Differed theirs b) ⊎ ((c.at ≡ next_place b.at) × In b theirs)

-- each of a desk's votes follows the one before it, by the other desk's votes
abbrev pub Justified : List Ballot → List Ballot → Type 0
Justified theirs [] = Unit {0}
Justified theirs (b ∷ bs) = InRange b.at × Follows theirs b bs × Justified theirs bs

-- all votes of both desks
pub record AllVotes : Type 0 where
  pub a : List Ballot
  pub b : List Ballot

abbrev pub votes_by : AllVotes → DeskId → List Ballot
votes_by v A = v.a
votes_by v B = v.b

-- each vote of either desk follows the one before it
abbrev pub AllJustified : AllVotes → Type 0
AllJustified v = Justified v.b v.a × Justified v.a v.b

-- each ballot of xs is in ys
abbrev pub Within : List Ballot → List Ballot → Type 0
Within xs ys = (b : Ballot) → In b xs → In b ys

-- the new votes have all the old ones
abbrev pub VotesGrow : AllVotes → AllVotes → Type 0
VotesGrow old new = Within old.a new.a × Within old.b new.b
