-- The marks, runs and count of the items of a book.
use Rattle.std.specs.Prelude.{ℕ, List, [], Bool, true, false}
use Rattle.notation.specs.declared.entry.Plain.{Plain}
use Rattle.ball_laws.specs.Over.{counting}
use Rattle.ball_laws.specs.Sums.{tally}
use Rattle.match_laws.specs.Figures.{runs_of}
use Rattle.corrections.specs.Overs.{bowled}
use Rattle.score_rows.specs.Row.{marks}

-- the mark of a delivery; nothing for any other item
abbrev pub item_mark : Plain → List ℕ
item_mark item = marks (bowled item [])

abbrev pub is_ball : Plain → Bool
is_ball (Plain.Ball b) = true
is_ball _ = false

-- the runs of a delivery; 0 for any other item
abbrev pub item_runs : Plain → ℕ
item_runs item = tally runs_of (bowled item [])

-- 1 for a delivery that counts; 0 for any other item
abbrev pub item_counts : Plain → ℕ
item_counts item = counting (bowled item [])
