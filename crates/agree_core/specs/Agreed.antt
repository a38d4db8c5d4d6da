-- What the votes of both desks settle.
use Rattle.std.specs.Prelude.{◌≡◌, ◌<◌, ◌+◌, ℕ, List, [], ◌∷◌, ◌++◌, length}
use Rattle.notation.specs.declared.entry.Entry.{Entry}
use Rattle.agree_core.specs.Ballots.{AllVotes, Ballot, ballot_at, In}

-- both desks voted for this entry at this place in this round
abbrev pub EqualVotes : AllVotes → ℕ → ℕ → Entry → Type 0
EqualVotes v place round e = In (ballot_at place round e) v.a × In (ballot_at place round e) v.b

-- for each of these entries, in turn from this place on, both desks have a vote in one round
abbrev pub AllBoth : List Ballot → List Ballot → ℕ → List Entry → Type 0
AllBoth own theirs place [] = Unit {0}
AllBoth own theirs place (e ∷ es) =
    ((round : ℕ) × EqualVotes (record { a = own; b = theirs }) place round e)
    × AllBoth own theirs (place + 1) es

-- this is the least round of the place with equal votes of both desks, and they are for this entry
abbrev pub SettledIn : AllVotes → ℕ → ℕ → Entry → Type 0
SettledIn v place round e =
    EqualVotes v place round e
    × ((r : ℕ) (f : Entry) → r < round → EqualVotes v place r f → ⊥)

-- the place is settled at this entry
abbrev pub SettledAt : AllVotes → ℕ → Entry → Type 0
SettledAt v place e = (round : ℕ) × SettledIn v place round e

-- no round of the place has equal votes of both desks
abbrev pub Unsettled : AllVotes → ℕ → Type 0
Unsettled v place = (round : ℕ) (e : Entry) → EqualVotes v place round e → ⊥

-- each place from this one on is settled at the next of these entries
abbrev pub AllSettled : AllVotes → ℕ → List Entry → Type 0
AllSettled v place [] = Unit {0}
AllSettled v place (e ∷ es) = SettledAt v place e × AllSettled v (place + 1) es

-- the agreed list: the entries of the places below the first unsettled one
abbrev pub IsAgreedList : AllVotes → List Entry → Type 0
IsAgreedList v xs = AllSettled v 0 xs × Unsettled v (length xs)

abbrev pub BeginsWith : List Entry → List Entry → Type 0
BeginsWith ys xs = (rest : List Entry) × (xs ++ rest ≡ ys)
