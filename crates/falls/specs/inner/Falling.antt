-- The falls of the standing items, item by item.
use Rattle.std.specs.Prelude.{◌+◌, if◌then◌else◌, List, [], ◌∷◌, ◌++◌, length}
use Rattle.notation.specs.declared.entry.Plain.{Plain}
use Rattle.ball_laws.specs.History.{History, called_overs, is_wicket, open_over}
use Rattle.ball_laws.specs.Over.{counting}
use Rattle.match_laws.specs.History.{begun}
use Rattle.falls.specs.declared.fallen.FallAt.{FallAt}
use Rattle.falls.specs.Falls.{counted, falls_at}

-- where the match stands: how many innings have begun, the overs called in the current one, and the counting
-- balls since
abbrev pub point_of : History → FallAt
point_of h = record { innings = begun h; overs = length (called_overs h); balls = counting (open_over h) }

-- where a wicket falls at an item, given where the match stood before
abbrev pub fall_from : FallAt → Plain → FallAt
fall_from at x = record { innings = at.innings; overs = at.overs; balls = at.balls + counted x }

abbrev pub behind : Plain → FallAt → FallAt
behind (Plain.Ball b) at = fall_from at (Plain.Ball b)
behind Plain.Over at = record { innings = at.innings; overs = at.overs + 1; balls = 0 }
behind (Plain.Innings side) at = record { innings = at.innings + 1; overs = 0; balls = 0 }
behind (Plain.End cause) at = record { innings = at.innings; overs = 0; balls = 0 }
behind x at = at

-- where the match stands, with the falls so far
pub record Falling : Type 0 where
  pub at : FallAt
  pub falls : List FallAt

abbrev pub nothing : Falling
nothing = record { at = record { innings = 0; overs = 0; balls = 0 }; falls = [] }

abbrev pub falling_after : Plain → Falling → Falling
falling_after x s = record { at = behind x s.at; falls = if is_wicket x then s.falls ++ fall_from s.at x ∷ [] else s.falls }

abbrev pub falling_of : History → Falling
falling_of h = record { at = point_of h; falls = falls_at h }
