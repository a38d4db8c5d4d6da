-- What a board's value shows of its match, in a viewer's words.
use Rattle.std.specs.Prelude.{◌≡◌, ℕ, true, length}
use Rattle.ball_laws.specs.History.{History, open_over}
use Rattle.ball_laws.specs.Over.{counting}
use Rattle.match_laws.specs.History.{is_open}
use Rattle.match_laws.specs.Figures.{wickets, balls, falls}
use Rattle.match_laws.specs.Result.{current}
use Rattle.match_laws.specs.Totals.{AddsUp as RunsAddUp}

-- The `runs` of innings i are those of its batters plus its `extras`, and it has as many `falls` as `wickets`.
pub record AddsUp (h : History) (i : ℕ) : Type 0 where
  pub runs : RunsAddUp h i
  pub wickets : length (falls h i) ≡ wickets h i

-- While an innings is open, as many deliveries of `this_over` count as its `overs` has balls behind the point.
abbrev pub CountsThisOver : History → Type 0
CountsThisOver h = is_open h ≡ true → counting (open_over h) ≡ balls h (current h)
