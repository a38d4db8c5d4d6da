-- Places of a book, rounds of voting on them, and their order.
use Rattle.std.specs.Prelude.{◌≡◌, ◌<◌, ◌≤◌, ◌+◌, ◌⊎◌, Bool, true, false}
use Rattle.agree_core.specs.declared.{position.Position.Position, position.TheConstants.ROUNDS, messages.Vote.Vote}
use Rattle.notation.specs.declared.entry.TheConstants.{PLACES}

-- a position at which a vote can be cast or asked for
abbrev pub InRange : Position → Type 0
InRange p = (p.place < PLACES) × (p.round < ROUNDS)

-- all places, or all rounds of this place, are used up
abbrev pub IsFull : Position → Type 0
IsFull p = (PLACES ≤ p.place) ⊎ (ROUNDS ≤ p.round)

-- positions are in order by place and then round
abbrev pub Before : Position → Position → Type 0
Before p q = (p.place < q.place) ⊎ ((p.place ≡ q.place) × (p.round < q.round))

abbrev pub first : Position
first = record { place = 0; round = 0 }

abbrev pub next_place : Position → Position
next_place p = record { place = p.place + 1; round = 0 }

abbrev pub next_round : Position → Position
next_round p = record { place = p.place; round = p.round + 1 }

-- the position that opens once both desks have voted, by whether their votes are equal
abbrev pub next_position : Bool → Position → Position
next_position true p = next_place p
next_position false p = next_round p

abbrev pub position_of : Vote → Position
position_of v = record { place = v.place; round = v.round }
