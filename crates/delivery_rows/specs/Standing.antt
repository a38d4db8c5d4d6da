-- The score of an innings after a delivery. early are the items before its first delivery, and late those up to the next one.
use Rattle.std.specs.Prelude.{ℕ, ◌+◌, ◌==◌, Bool, true, false, if◌then◌else◌, List, length, filter, is_some}
use Rattle.notation.specs.declared.entry.{Ball.Ball, Leave.Leave, Plain.Plain}
use Rattle.ball_laws.specs.Runs.{all_runs, split_of_ball}
use Rattle.ball_laws.specs.Sums.{one_if}
use Rattle.archive_deliveries.specs.declared.notes.Noted.{Noted}
use Rattle.delivery_rows.specs.declared.standing.Standing.{Standing}

-- a batter who left between deliveries is out, unless he retired hurt
abbrev pub is_out : Plain → Bool
is_out (Plain.Gone Leave.RetiredHurt p) = false
is_out (Plain.Gone way p) = true
is_out _ = false

-- how many wickets these items between deliveries are
abbrev pub fallen : List Noted → ℕ
fallen xs = length (filter (λ x. is_out x.item) xs)

-- the score before the first delivery, with these penalty runs
abbrev pub beginning : ℕ → Standing
beginning before = record { over = 0; ball = 0; runs = before; wickets = 0 }

-- how many deliveries an over has had so far
abbrev pub balls_of : Standing → ℕ → ℕ
balls_of now over = if over == now.over then now.ball else 0

-- the wickets that a delivery carries: those before the first delivery, its own, and those after it
abbrev pub wickets_of : List Noted → Ball → List Noted → ℕ
wickets_of early b late = fallen early + (one_if (is_some b.out) + fallen late)

-- the score after a delivery of this over, with the penalty runs that it carries
abbrev pub after : Standing → ℕ → List Noted → ℕ → Ball → List Noted → Standing
after now penalty early over b late = record {
  over = over;
  ball = balls_of now over + 1;
  runs = now.runs + (all_runs (split_of_ball b) + penalty);
  wickets = now.wickets + wickets_of early b late;
}
