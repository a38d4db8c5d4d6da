-- What the limits mean for the score of innings i, by the Laws' figures of the history h. n is the number of overs of the
-- innings, l the sheet's limits, and m the number of innings a side.
use Rattle.std.specs.Prelude.{ℕ, ◌+◌, ◌-◌, ◌*◌, min, ◌==◌, nat_lt, ◌&&◌, ◌||◌, not, if◌then◌else◌, Bool, true, false, List, [], ◌∷◌, map, take, length, Option, Some, None, option_map}
use Rattle.notation.specs.declared.entry.{Kind.Kind, Plain.Plain}
use Rattle.notation.specs.declared.entry.Kind.TheVariants.{Nb, NbBye, NbLeg}
use Rattle.ball_laws.specs.History.{History, open_over, called_overs, last_called_over}
use Rattle.ball_laws.specs.Over.{bowled_in, counts}
use Rattle.ball_laws.specs.Sums.{count_of, one_if, tally}
use Rattle.match_laws.specs.History.{begun, is_open}
use Rattle.match_laws.specs.Figures.{total, overs, balls, runs_of}
use Rattle.match_laws.specs.Result.{current, target}
use Rattle.limits.specs.Limits.{Limits, powerplay_of}
use Rattle.limits.specs.Rates.{an_over}

-- ---- what is left

-- overs left: those that aren't called
abbrev pub overs_left : ℕ → History → ℕ → ℕ
overs_left n h i = n - overs h i

-- deliveries left: six for each over left, less those that count in the open over, at most six of them. A called over is
-- one over, even if five or seven of its deliveries count
abbrev pub deliveries_left : ℕ → History → ℕ → ℕ
deliveries_left n h i = 6 * overs_left n h i - min (balls h i) 6

-- ---- what is needed

-- the runs that the side that bats last still needs to win (Law 16)
abbrev pub runs_needed : ℕ → History → Option ℕ
runs_needed m h = if begun h == 0 then None else option_map (λ runs. runs - total h (current h)) (target m h)

-- ---- run rates

-- the deliveries of an innings; a called over counts as six
abbrev pub deliveries_had : History → ℕ → ℕ
deliveries_had h i = 6 * overs h i + balls h i

-- the run rate in hundredths of a run an over: the total of the innings off its deliveries
abbrev pub run_rate : History → ℕ → Option ℕ
run_rate h i = an_over (total h i) (deliveries_had h i)

-- the runs off each called over of the open innings, newest first
abbrev pub overs_runs : History → List ℕ
overs_runs h = map (tally runs_of) (called_overs h)

-- the run rate of the last five overs, or of all if there are fewer
abbrev pub last_overs : List ℕ → Option ℕ
last_overs runs = an_over (tally (λ n. n) (take 5 runs)) (6 * length (take 5 runs))

-- the run rate of the last five called overs
abbrev pub last_rate : History → Option ℕ
last_rate h = last_overs (overs_runs h)

-- ---- who may bowl

-- the number of overs of the open innings in which the player bowled. An over that several bowled counts for each of them: if
-- a bowler can't finish an over, the part of it counts as a full over as far as each bowler's limit is concerned (ICC
-- playing conditions of one-day and Twenty20 matches, clause 13, on the overs of a bowler)
abbrev pub overs_bowled : ℕ → History → ℕ
overs_bowled p h = count_of (bowled_in p) (called_overs h) + one_if (bowled_in p (open_over h))

-- how many more overs the player may begin if a bowler may bowl `most`
abbrev pub overs_yet : ℕ → ℕ → History → ℕ
overs_yet most p h = most - overs_bowled p h

-- the player bowls this over or has an over left, or a bowler's overs aren't limited
abbrev pub has_overs : Option ℕ → ℕ → History → Bool
has_overs None p h = true
has_overs (Some most) p h = bowled_in p (open_over h) || nat_lt 0 (overs_yet most p h)

-- the player may bowl the next delivery: has overs, and bowled no delivery of the over before (Law 17)
abbrev pub may_bowl : Option ℕ → ℕ → History → Bool
may_bowl most p h = has_overs most p h && not (bowled_in p (last_called_over h))

-- ---- the next delivery

-- a No ball, with the bat, byes or leg byes (Law 21)
abbrev pub is_no_ball : Kind → Bool
is_no_ball Nb = true
is_no_ball NbBye = true
is_no_ball NbLeg = true
is_no_ball _ = false

-- whether a free hit comes after an item, given whether one was to come before it: a No ball brings a free hit, and another
-- delivery that counts ends it. A Wide leaves it, and so does a delivery that was ruled dead
abbrev pub free_hit_after : Plain → Bool → Bool
free_hit_after (Plain.Ball b) on = is_no_ball b.kind || (on && not (counts b))
free_hit_after (Plain.Innings side) on = false
free_hit_after (Plain.End cause) on = false
free_hit_after x on = on

abbrev pub is_free_hit : History → Bool
is_free_hit [] = false
is_free_hit (x ∷ h) = free_hit_after x (is_free_hit h)

-- the number, from 1, of the over in progress, or else of the next one
abbrev pub over_number : History → ℕ → ℕ
over_number h i = overs h i + 1

-- the powerplay that this over is in, if an innings is open
abbrev pub powerplay_now : Limits → History → ℕ → Option ℕ
powerplay_now l h i = if is_open h then powerplay_of l (over_number h i) else None
