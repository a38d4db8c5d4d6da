-- What the other desk's messages show of lines that one of the two files lacks.
--
-- A desk leaves a position once it has both votes of that position. So where a desk votes, both desks have voted at every
-- position before.
use Rattle.std.specs.Prelude.{ℕ, Bool, false, ◌==◌, nat_lt, not, if◌then◌else◌, ◌&&◌, ◌||◌, is_some, List, [], ◌∷◌}
use Rattle.std.specs.Str.{bytes_eq}
use Rattle.notation.specs.Code.{code}
use Rattle.agree_core.specs.declared.position.Position.{Position}
use Rattle.agree_core.specs.Ballots.{Ballot}
use Rattle.agree_core.specs.Positions.{next_place, next_round}
use Rattle.agree_core.specs.Seats.{SeatState}

abbrev pub is_before : Position → Position → Bool
is_before p q = nat_lt p.place q.place || ((p.place == q.place) && nat_lt p.round q.round)

abbrev pub is_at : Position → Position → Bool
is_at p q = (p.place == q.place) && (p.round == q.round)

-- q is the next round or the next place after p
abbrev pub is_next : Position → Position → Bool
is_next p q = is_at (next_round p) q || is_at (next_place p) q

-- By this desk's votes, the other desk can have reached this position: it isn't ahead of this desk's own position; or it
-- is the next one and this desk's vote is cast, without which nobody leaves a position. A vote of the other desk for any
-- other position shows that this desk's file lacks lines.
abbrev pub is_in_reach : SeatState → Position → Bool
is_in_reach s at = not (is_before s.position at) || (is_some s.mine && is_next s.position at)

-- one of these votes is for this position
abbrev pub is_voted : List Ballot → Position → Bool
is_voted [] at = false
is_voted (b ∷ bs) at = is_at b.at at || is_voted bs at

-- This desk has passed this position without a vote there, so the other desk can't have been there: its ask for that
-- position shows that the other desk's file lacks lines.
abbrev pub is_passed_over : SeatState → List Ballot → Position → Bool
is_passed_over s votes at = is_before at s.position && not (is_voted votes at)

-- A vote of the other desk for an earlier position, for the entry with this code, isn't the vote by which this desk went on.
-- Either it is for the position of this desk's last vote, and is equal although the next round came, or different although
-- the next place came; or it is for a position after that one, which this desk passed over. So the other desk's file lacks
-- what it voted before.
abbrev pub is_another : SeatState → List Ballot → Position → List ℕ → Bool
is_another s [] at entry = false
is_another s (b ∷ bs) at entry =
    if is_at b.at at
    then is_at (if bytes_eq entry (code b.entry) then next_round b.at else next_place b.at) s.position
    else is_before b.at at
