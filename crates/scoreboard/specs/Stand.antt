-- The partnership: runs and balls since the last wicket of the open innings, or since that innings began, and the share of
-- each of the two batters.
use Rattle.std.specs.Prelude.{ℕ, ◌+◌, is_some, if◌then◌else◌, List, [], ◌∷◌, ◌++◌, Option, Some, None, option_map, codes}
use Rattle.notation.specs.declared.entry.{Ball.Ball, Leave.Leave, Plain.Plain}
use Rattle.notation.specs.declared.entry.Leave as leave
use Rattle.ball_laws.specs.declared.ends.Ends.{Ends}
use Rattle.ball_laws.specs.History.{History}
use Rattle.ball_laws.specs.Laws.{state_after}
use Rattle.match_laws.specs.History.{is_at, is_open}
use Rattle.match_laws.specs.Figures.{runs_of, batted_of, faced_of}
use Rattle.json.specs.Json.{Json, null}
use Rattle.json_fields.specs.Values.{Field, object_of, number_field}
use Rattle.scoreboard.specs.declared.stand.{Stand.Stand, Partnership.Partnership}

-- before its first delivery
abbrev pub no_stand : Stand
no_stand = record { runs = 0; balls = 0 }

-- one more delivery: all its runs, and one ball unless it is a Wide
abbrev pub stand_with : Ball → Stand → Stand
stand_with b s = record { runs = s.runs + runs_of b; balls = s.balls + faced_of b }

-- after a delivery: a wicket ends the partnership
abbrev pub stand_behind : Ball → Stand → Stand
stand_behind b s = if is_some b.out then no_stand else stand_with b s

-- after a batter has left: the partnership ends, unless he retired hurt and so may come in again
abbrev pub stand_left : Leave → Stand → Stand
stand_left leave.TheVariants.RetiredHurt s = s
stand_left way s = no_stand

-- after an item: the beginning and the end of an innings end the partnership too
abbrev pub stand_after : Plain → Stand → Stand
stand_after (Plain.Ball b) s = stand_behind b s
stand_after (Plain.Gone way p) s = stand_left way s
stand_after (Plain.Innings side) s = no_stand
stand_after (Plain.End cause) s = no_stand
stand_after x s = s

abbrev pub stand_of : History → Stand
stand_of [] = no_stand
stand_of (x ∷ h) = stand_after x (stand_of h)

-- ---- a batter's share

-- one more delivery that he faced: the runs off his bat, and one ball unless it is a Wide
abbrev pub share_with : Ball → Stand → Stand
share_with b s = record { runs = s.runs + batted_of b; balls = s.balls + faced_of b }

-- the share of player p after an item, with these batters at the ends before it: it ends with the partnership
abbrev pub share_after : ℕ → Ends → Plain → Stand → Stand
share_after p e (Plain.Ball b) s = if is_some b.out then no_stand else if is_at e.striker p then share_with b s else s
share_after p e x s = stand_after x s

abbrev pub share_of : ℕ → History → Stand
share_of p [] = no_stand
share_of p (x ∷ h) = share_after p (state_after h).ends x (share_of p h)

-- ---- the whole partnership

-- with the shares of the two batters at the ends
abbrev pub partnership_of : History → Ends → Partnership
partnership_of h e = record {
  all = stand_of h;
  striker = option_map (λ p. share_of p h) e.striker;
  other = option_map (λ p. share_of p h) e.other;
}

-- the partnership while an innings is open
abbrev pub partnership_now : History → Option Partnership
partnership_now h = if is_open h then Some (partnership_of h (state_after h).ends) else None

abbrev pub stand_fields : Stand → List Field
stand_fields s = number_field (codes "runs") s.runs ∷ [] ++ number_field (codes "balls") s.balls ∷ []

abbrev pub share_or_null : Option Stand → Json
share_or_null None = null
share_or_null (Some s) = object_of (stand_fields s)

abbrev pub partnership_value : Partnership → Json
partnership_value p =
    object_of (stand_fields p.all ++ (codes "striker", share_or_null p.striker) ∷ [] ++ (codes "other", share_or_null p.other) ∷ [])

abbrev pub partnership_or_null : Option Partnership → Json
partnership_or_null None = null
partnership_or_null (Some p) = partnership_value p

abbrev pub partnership_field : Option Partnership → Field
partnership_field p = (codes "partnership", partnership_or_null p)
