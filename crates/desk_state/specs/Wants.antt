-- What a match wants next: what the scorer has to write. n is the innings a side and h the history.
use Rattle.std.specs.Prelude.{ℕ, Bool, true, false, nat_le, if◌then◌else◌, Option, Some, None, List, codes}
use Rattle.ball_laws.specs.History.{History, open_over}
use Rattle.ball_laws.specs.Ends.{has_vacancy}
use Rattle.ball_laws.specs.Laws.{state_after}
use Rattle.match_laws.specs.declared.outcome.Outcome.{Outcome}
use Rattle.match_laws.specs.declared.outcome.Outcome.TheVariants.{Undecided}
use Rattle.match_laws.specs.History.{is_open}
use Rattle.match_laws.specs.Figures.{balls}
use Rattle.match_laws.specs.Result.{current, outcome}
use Rattle.corrections.specs.Overs.{newest_bowler}
use Rattle.desk_state.specs.declared.wants.Wants.{Wants}

-- there is no result yet
abbrev pub is_undecided : Outcome → Bool
is_undecided Undecided = true
is_undecided _ = false

-- with the bowler of the over's last delivery: a delivery; while the over has none yet: its bowler
abbrev pub wants_delivery : Option ℕ → Wants
wants_delivery None = Wants.Bowler
wants_delivery (Some p) = Wants.Ball

-- with both batters in: the call of over, once six deliveries have counted
abbrev pub wants_of_over : ℕ → Option ℕ → Wants
wants_of_over counted bowler = if nat_le 6 counted then Wants.Over else wants_delivery bowler

-- while an innings is open: a batter, if a place at the crease is empty
abbrev pub wants_in_play : History → Wants
wants_in_play h =
    if has_vacancy (state_after h).ends then Wants.Batter
    else wants_of_over (balls h (current h)) (newest_bowler (open_over h))

-- an innings while none is open; nothing once there is a result
abbrev pub wants : ℕ → History → Wants
wants n h =
    if is_undecided (outcome n h) then (if is_open h then wants_in_play h else Wants.Innings)
    else Wants.Nothing

abbrev pub wants_text : Wants → List ℕ
wants_text Wants.Innings = codes "innings"
wants_text Wants.Batter = codes "batter"
wants_text Wants.Bowler = codes "bowler"
wants_text Wants.Ball = codes "ball"
wants_text Wants.Over = codes "over"
wants_text Wants.Nothing = codes "nothing"
