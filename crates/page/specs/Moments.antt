-- Each item of a match, with the state of play before it and the score after it. h is a history, the newest item first.
use Rattle.std.specs.Prelude.{ℕ, ◌+◌, ◌==◌, Bool, is_some, Some, if◌then◌else◌, List, [], ◌∷◌}
use Rattle.notation.specs.declared.entry.{Ball.Ball, Plain.Plain}
use Rattle.ball_laws.specs.History.{History, open_over}
use Rattle.ball_laws.specs.Sums.{count_of, tally}
use Rattle.match_laws.specs.Figures.{runs_of, total, wickets}
use Rattle.match_laws.specs.History.{begun, is_open}
use Rattle.match_laws.specs.Result.{current}
use Rattle.corrections.specs.declared.placed.Placed.{Placed}
use Rattle.corrections.specs.Overs.{newest_bowler}
use Rattle.archive_deliveries.specs.Notes.{balls_called, overs_called}
use Rattle.page.specs.declared.{moments.OverSoFar.OverSoFar, moments.Moment.Moment}

abbrev pub is_out : Ball → Bool
is_out b = is_some b.out

-- the over with one more delivery
abbrev pub over_with : OverSoFar → Ball → OverSoFar
over_with over b = record {
  bowler = Some b.bowler;
  runs = over.runs + runs_of b;
  down = if is_out b then over.down + 1 else over.down;
}

-- the over in progress: who bowled its last delivery, the runs of all its deliveries, and the wickets that fell off them
abbrev pub over_so_far : History → OverSoFar
over_so_far h = record {
  bowler = newest_bowler (open_over h);
  runs = tally runs_of (open_over h);
  down = count_of is_out (open_over h);
}

-- the score of the innings that began last
abbrev pub total_now : History → ℕ
total_now h = if begun h == 0 then 0 else total h (current h)

abbrev pub wickets_now : History → ℕ
wickets_now h = if begun h == 0 then 0 else wickets h (current h)

-- an item with the state of play before it, without the score after it
abbrev pub before : History → Plain → Moment
before h x = record {
  innings = 0;
  on = is_open h;
  overs = overs_called h;
  balls = balls_called h;
  over = over_so_far h;
  total = 0;
  wickets = 0;
  item = x;
}

-- the item with the score after it, that of the history h
abbrev pub behind : Moment → History → Moment
behind m h = record m { innings = current h; total = total_now h; wickets = wickets_now h }

abbrev pub moment : History → Plain → Moment
moment h x = behind (before h x) (x ∷ h)

-- the end of a clean list, which has a `void` as its item
abbrev pub last : History → Moment
last h = behind (before h Plain.Void) h

-- the items of a clean list that follow the history, and then its end
abbrev pub moments : History → List Placed → List Moment
moments h [] = last h ∷ []
moments h (x ∷ xs) = moment h x.item ∷ moments (x.item ∷ h) xs
