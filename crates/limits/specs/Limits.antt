-- The limits of a sheet: the overs of an innings and of a bowler, free hits and powerplays. Each may be absent.
use Rattle.std.specs.Prelude.{ℕ, ◌-◌, ◌+◌, min, ◌&&◌, nat_le, Bool, false, List, [], ◌∷◌, length, slice_get, Option, Some, None, if◌then◌else◌}
use Rattle.limits.specs.declared.powerplay.Powerplay.{Powerplay}

pub record Limits : Type 0 where
  pub overs : List ℕ
  pub overs_a_bowler : Option ℕ
  pub free_hits : Bool
  pub powerplays : List Powerplay

-- the limits of a sheet that sets none
abbrev pub no_limits : Limits
no_limits = record { overs = []; overs_a_bowler = None; free_hits = false; powerplays = [] }

-- how many overs innings i has: its number in the list, the last of which holds for later innings too
abbrev pub overs_for : Limits → ℕ → Option ℕ
overs_for l i = slice_get l.overs (min i (length l.overs - 1))

-- the powerplay includes this over
abbrev pub has_over : ℕ → Powerplay → Bool
has_over over p = nat_le p.first over && nat_le over p.last

-- the number of the first powerplay that includes the over, in a list numbered from k
abbrev pub powerplay_from : ℕ → ℕ → List Powerplay → Option ℕ
powerplay_from over k [] = None
powerplay_from over k (p ∷ ps) = if has_over over p then Some k else powerplay_from over (k + 1) ps

-- the number, from 1, of the powerplay that the over is in
abbrev pub powerplay_of : Limits → ℕ → Option ℕ
powerplay_of l over = powerplay_from over 1 l.powerplays
