-- Who may come in, and who may bowl: numbers of players. s is the sheet, n the innings a side and h the history.
use Rattle.std.specs.Prelude.{ℕ, Bool, true, false, ◌&&◌, is_none, Option, Some, None, List, map, filter}
use Rattle.notation.specs.declared.entry.{Ball.Ball, Plain.Plain}
use Rattle.notation.specs.declared.entry.Kind.TheVariants.{Bat}
use Rattle.notation.specs.declared.entry.Bound.TheVariants.{Run}
use Rattle.ball_laws.specs.History.{History}
use Rattle.ball_laws.specs.Over.{numbers}
use Rattle.ball_laws.specs.declared.refusals.BallRefusal.TheVariants.{NoBatter}
use Rattle.match_laws.specs.declared.refusals.LawRefusal.{LawRefusal}
use Rattle.match_laws.specs.Refusals.{refusal}
use Rattle.limits.specs.Figures as limits
use Rattle.cards.specs.Sheet.{Sheet}
use Rattle.json.specs.Json.{Json}
use Rattle.json_fields.specs.Values.{array_of, number_value}

-- the Laws don't refuse that player p comes in
abbrev pub may_come_in : ℕ → History → ℕ → Bool
may_come_in n h p = is_none (refusal n h (Plain.Come p))

-- the players of the batting side who may come in
abbrev pub batters : ℕ → History → List ℕ
batters n h = filter (may_come_in n h) numbers

-- a delivery by player p with no runs
abbrev pub dot_of : ℕ → Ball
dot_of p = record { bowler = p; kind = Bat; ran = 0; short = 0; bound = Run; dead = false; out = None }

-- the Laws accept a delivery, or refuse it only because a batter has to come in first
abbrev pub is_playable : Option LawRefusal → Bool
is_playable None = true
is_playable (Some (LawRefusal.Ball NoBatter)) = true
is_playable (Some why) = false

-- player p may bowl the next delivery: he has overs left, bowled none of the over before, and the Laws accept his delivery
abbrev pub may_bowl : Sheet → ℕ → History → ℕ → Bool
may_bowl s n h p = limits.may_bowl s.limits.overs_a_bowler p h && is_playable (refusal n h (Plain.Ball (dot_of p)))

-- the players of the fielding side who may bowl
abbrev pub bowlers : Sheet → ℕ → History → List ℕ
bowlers s n h = filter (may_bowl s n h) numbers

abbrev pub numbers_value : List ℕ → Json
numbers_value ns = array_of (map number_value ns)
