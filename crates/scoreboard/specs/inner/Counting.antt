-- The overs of a clean list, counted item by item.
use Rattle.std.specs.Prelude.{ℕ, ◌+◌, List, [], ◌∷◌, ◌++◌}
use Rattle.notation.specs.declared.entry.Plain.{Plain}
use Rattle.ball_laws.specs.History.{History, open_over}
use Rattle.ball_laws.specs.Sums.{tally}
use Rattle.match_laws.specs.History.{begun}
use Rattle.match_laws.specs.Figures.{runs_of}
use Rattle.scoreboard.specs.declared.value.OverRuns.{OverRuns}
use Rattle.scoreboard.specs.OverRuns.{over_runs}

-- the number of innings begun, the runs of the open over, and the overs called
pub record Counted : Type 0 where
  pub begun : ℕ
  pub this : ℕ
  pub called : List OverRuns

abbrev pub nothing : Counted
nothing = record { begun = 0; this = 0; called = [] }

abbrev pub counted_after : Plain → Counted → Counted
counted_after (Plain.Ball b) s = record { begun = s.begun; this = s.this + runs_of b; called = s.called }
counted_after Plain.Over s = record { begun = s.begun; this = 0; called = s.called ++ record { innings = s.begun; runs = s.this } ∷ [] }
counted_after (Plain.Innings side) s = record { begun = s.begun + 1; this = 0; called = s.called }
counted_after (Plain.End cause) s = record { begun = s.begun; this = 0; called = s.called }
counted_after x s = s

abbrev pub counted_of : History → Counted
counted_of h = record { begun = begun h; this = tally runs_of (open_over h); called = over_runs h }
