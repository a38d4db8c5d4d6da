-- Which players' wickets the falls are.
use Rattle.std.specs.Prelude.{◌≡◌, ℕ, ◌+◌, ◌==◌, Option, Some, None, List, map, filter}
use Rattle.notation.specs.declared.entry.Plain.{Plain}
use Rattle.ball_laws.specs.declared.ends.Ends.{Ends}
use Rattle.ball_laws.specs.Ends.{dismissed}
use Rattle.ball_laws.specs.History.{History}
use Rattle.ball_laws.specs.Laws.{state_after}
use Rattle.match_laws.specs.Figures.{falls}
use Rattle.match_laws.specs.History.{begun}
use Rattle.falls.specs.Falls.{Wicket, fall_of, falls_at, falls_in, wickets_of}

-- the player who is out by an item, given the batters at the ends before it
abbrev pub out_by : Plain → Ends → Option ℕ
out_by (Plain.Ball b) ends = dismissed b.out ends
out_by (Plain.Gone way p) ends = Some p
out_by _ ends = None

abbrev pub who : Wicket → Option ℕ
who w = out_by w.item (state_after w.before).ends

-- the items at which the wickets of innings i fall
abbrev pub wickets_in : History → ℕ → List Wicket
wickets_in h i = filter (λ w. begun w.before == i + 1) (wickets_of h)

-- The `players` of the card's falls of innings i are those who are out by the items at which its wickets fell,
-- one for each item, in order; `there`, the overs and balls of the falls are those of these items.
pub record FallsStand (h : History) (i : ℕ) : Type 0 where
  pub players : map (λ fall. Some fall.player) (falls h i) ≡ map who (wickets_in h i)
  pub there : falls_in (i + 1) (falls_at h) ≡ map fall_of (wickets_in h i)
