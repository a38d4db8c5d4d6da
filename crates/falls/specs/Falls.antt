-- Where wickets fell. h is a history, the newest item first.
use Rattle.std.specs.Prelude.{ℕ, ◌+◌, ◌==◌, if◌then◌else◌, List, [], ◌∷◌, ◌++◌, length, filter, map, codes, decimal}
use Rattle.notation.specs.declared.entry.Plain.{Plain}
use Rattle.ball_laws.specs.History.{History, called_overs, is_wicket, open_over}
use Rattle.ball_laws.specs.Over.{counting, counts}
use Rattle.ball_laws.specs.Sums.{one_if}
use Rattle.match_laws.specs.History.{begun}
use Rattle.falls.specs.declared.fallen.FallAt.{FallAt}

-- an item at which a wicket falls, and the history before it
pub record Wicket : Type 0 where
  pub before : History
  pub item : Plain

-- the wickets of all innings, in order
abbrev pub wickets_of : History → List Wicket
wickets_of [] = []
wickets_of (x ∷ h) = if is_wicket x then wickets_of h ++ record { before = h; item = x } ∷ [] else wickets_of h

-- a delivery that counts in its over
abbrev pub counted : Plain → ℕ
counted (Plain.Ball b) = one_if (counts b)
counted _ = 0

-- how many overs of the innings had been called, and how many balls of the next over counted, the wicket's own
-- included
abbrev pub fall_of : Wicket → FallAt
fall_of w = record {
  innings = begun w.before;
  overs = length (called_overs w.before);
  balls = counting (open_over w.before) + counted w.item;
}

abbrev pub falls_at : History → List FallAt
falls_at h = map fall_of (wickets_of h)

-- the falls of one innings, by its number from 1
abbrev pub falls_in : ℕ → List FallAt → List FallAt
falls_in number falls = filter (λ fall. fall.innings == number) falls

abbrev pub over_and_ball : FallAt → List ℕ
over_and_ball fall = decimal fall.overs ++ codes "." ++ decimal fall.balls
