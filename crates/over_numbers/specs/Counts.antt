-- How far an innings has come: its called overs, and the deliveries since, whether they count or not.
use Rattle.std.specs.Prelude.{ℕ, ◌+◌, ◌==◌, ◌&&◌, Bool, length}
use Rattle.ball_laws.specs.History.{History, open_over, called_overs}
use Rattle.match_laws.specs.History.{begun, is_open}
use Rattle.over_numbers.specs.declared.count.Count.{Count}

-- how many innings have begun, whether one is open, how many overs were called in it, and how many deliveries
-- came since
abbrev pub counted : History → Count
counted h = record { begun = begun h; is_open = is_open h; overs = length (called_overs h); balls = length (open_over h) }

-- the next item belongs to this over, from 1, of innings i
abbrev pub is_in_over : Count → ℕ → ℕ → Bool
is_in_over c i over = c.is_open && ((c.begun == i + 1) && (c.overs + 1 == over))
