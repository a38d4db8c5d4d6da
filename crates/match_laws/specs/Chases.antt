-- What a side needs in its last innings, and when it has won by it (Law 16). n is the number of innings a side.
use Rattle.std.specs.Prelude.{◌≡◌, ℕ, ◌-◌, ◌≤◌, Bool, true, false, nat_le, Some}
use Rattle.notation.specs.declared.entry.Side.{Side}
use Rattle.ball_laws.specs.History.{History}
use Rattle.match_laws.specs.declared.outcome.Outcome.TheVariants.{Wickets, PenaltyRuns}
use Rattle.match_laws.specs.History.{is_open, is_side, last_side, begun_by, opponent}
use Rattle.match_laws.specs.Figures.{total, wickets}
use Rattle.match_laws.specs.Result.{current, is_finished, is_chasing, has_won, needed, outcome, target}

-- the innings that began last is the side's last, and the other side is finished: the side chases, or has chased
pub record BatsLast (n : ℕ) (h : History) (side : Side) : Type 0 where
  pub began_last : is_side (last_side h) side ≡ true
  pub no_more : begun_by h side ≡ n
  pub after_other : is_finished n h (opponent side) ≡ true

-- the total of the innings that began last reaches what the side needs in it
abbrev pub reaches : History → Side → Bool
reaches h side = nat_le (needed h side) (total h (current h))

-- the side that bats last has won exactly if its innings, in play or ended, has a total that reaches what the side
-- needs: by the wickets left while the innings is in play, and by penalty runs once it has ended, since an innings
-- that reaches this total in play is not ended
pub record ChaseTells (n : ℕ) (h : History) (side : Side) : Type 0 where
  pub won : has_won n h side ≡ reaches h side
  pub aims : is_open h ≡ true → target n h ≡ Some (needed h side)
  pub in_play : is_open h ≡ true → reaches h side ≡ true → outcome n h ≡ Wickets side (10 - wickets h (current h))
  pub ended : is_open h ≡ false → reaches h side ≡ true → outcome n h ≡ PenaltyRuns side

-- an innings in play, with a target, a total that reaches it, and this many wickets left
pub record HasReachedTarget (n : ℕ) (h : History) (side : Side) (left : ℕ) : Type 0 where
  pub chases : is_chasing n h side ≡ true
  pub runs : ℕ
  pub aims : target n h ≡ Some runs
  pub reached : runs ≤ total h (current h)
  pub wickets_left : left ≡ 10 - wickets h (current h)

-- a side has won by wickets exactly if its last innings is in play and its total reaches the target
pub record WonByWickets (n : ℕ) (h : History) (side : Side) (left : ℕ) : Type 0 where
  pub only : outcome n h ≡ Wickets side left → HasReachedTarget n h side left
  pub always : HasReachedTarget n h side left → outcome n h ≡ Wickets side left
