-- How a desk's seat goes on in calm moments.
use Rattle.std.proofs.Common.{◌≡◌, ◌⊎◌, Some, None, List, refl, inl, inr, arith}
use Rattle.notation.specs.declared.entry.Entry.{Entry}
use Rattle.agree_core.specs.declared.{position.Position.Position}
use Rattle.agree_core.specs.Ballots.{Ballot, In}
use Rattle.agree_core.specs.Positions.{Before, next_place, next_round}
use Rattle.agree_core.specs.Seats.{SeatState, noting}
use Rattle.progress.specs.CalmMoments.{NotBack}

-- the seat notes the other desk's vote, before its desk casts its own
abbrev pub Notes : SeatState → SeatState → Type 0
Notes s t = (f : Entry) × (s.mine ≡ None) × (s.theirs ≡ None) × (t ≡ noting s f)

-- the desk has cast its vote, and its seat leaves for a later position
abbrev pub Leaves : List Ballot → SeatState → SeatState → Type 0
Leaves theirs s t =
    (e : Entry) × (f : Entry) × (s.mine ≡ Some e) × In (record { at = s.position; entry = f }) theirs
    × Before s.position t.position × (t.mine ≡ None)

abbrev pub GoesOn : List Ballot → SeatState → SeatState → Type 0
GoesOn theirs s t = (t ≡ s) ⊎ (Notes s t ⊎ Leaves theirs s t)

pub place_later : (p : Position) → Before p (next_place p)
place_later p = inl (omega arith)

pub round_later : (p : Position) → Before p (next_round p)
round_later p = inr (refl, omega arith)

pub goes_on : (theirs : List Ballot) (s t u : SeatState) → GoesOn theirs s t → GoesOn theirs t u → GoesOn theirs s u
goes_on theirs s t u h4 k = grind arith

pub not_back : (theirs : List Ballot) (s t : SeatState) → GoesOn theirs s t → NotBack s.position t.position
not_back theirs s t h3 = grind arith
