-- The last five overs of a clean list, counted item by item.
use Rattle.std.specs.Prelude.{ℕ, ◌+◌, min, List, [], length, get_or}
use Rattle.notation.specs.declared.entry.Plain.{Plain}
use Rattle.ball_laws.specs.History.{History, open_over}
use Rattle.ball_laws.specs.Sums.{tally}
use Rattle.match_laws.specs.Figures.{runs_of}
use Rattle.limits.specs.Figures.{overs_runs}
use Rattle.scoreboard.specs.declared.recent.{Five.Five, Recent.Recent}

-- the runs off all five overs
abbrev pub sum_of : Five → ℕ
sum_of f = f.first + f.second + f.third + f.fourth + f.fifth

-- the last five of the overs with these runs, the newest first
abbrev pub five_of : List ℕ → Five
five_of rs = record {
  first = get_or rs 0 0;
  second = get_or rs 1 0;
  third = get_or rs 2 0;
  fourth = get_or rs 3 0;
  fifth = get_or rs 4 0;
  overs = min (length rs) 5;
}

-- one more over
abbrev pub five_with : ℕ → Five → Five
five_with runs f = record {
  first = runs;
  second = f.first;
  third = f.second;
  fourth = f.third;
  fifth = f.fourth;
  overs = min (f.overs + 1) 5;
}

abbrev pub none_recent : Recent
none_recent = record { this = 0; called = five_of [] }

abbrev pub recent_after : Plain → Recent → Recent
recent_after (Plain.Ball b) s = record { this = s.this + runs_of b; called = s.called }
recent_after Plain.Over s = record { this = 0; called = five_with s.this s.called }
recent_after (Plain.Innings side) s = none_recent
recent_after (Plain.End cause) s = none_recent
recent_after x s = s

abbrev pub recent_of : History → Recent
recent_of h = record { this = tally runs_of (open_over h); called = five_of (overs_runs h) }
