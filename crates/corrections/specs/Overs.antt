-- The bowler, the over in progress and the over called last, by the history and among the items that stand. The
-- deliveries of an over are listed newest first.
use Rattle.std.specs.Prelude.{◌≡◌, ℕ, Option, Some, None, List, [], ◌∷◌}
use Rattle.notation.specs.declared.entry.{Ball.Ball, Plain.Plain}
use Rattle.ball_laws.specs.History.{History, open_over, last_called_over}
use Rattle.match_laws.specs.History.{or_else}
use Rattle.corrections.specs.declared.{overs.Overs.Overs, placed.Placed.Placed}

-- the bowler of the newest of these deliveries
abbrev pub newest_bowler : List Ball → Option ℕ
newest_bowler [] = None
newest_bowler (b ∷ bs) = Some b.bowler

-- the bowler of the last delivery of the over in progress, or else of the over called last
abbrev pub bowler_now : History → Option ℕ
bowler_now h = or_else (newest_bowler (open_over h)) (newest_bowler (last_called_over h))

-- this over, or the last one if this one has no delivery yet
abbrev pub this_or_last : List Ball → List Ball → List Ball
this_or_last [] last = last
this_or_last (b ∷ bs) last = b ∷ bs

-- the over of the innings' last delivery
abbrev pub over_now : History → List Ball
over_now h = this_or_last (open_over h) (last_called_over h)

-- the deliveries of an over after one more item
abbrev pub bowled : Plain → List Ball → List Ball
bowled (Plain.Ball b) over = b ∷ over
bowled _ over = over

-- the deliveries of an over after these items
abbrev pub with_balls : List Ball → List Placed → List Ball
with_balls over [] = over
with_balls over (x ∷ xs) = with_balls (bowled x.item over) xs

-- the deliveries among these items
abbrev pub balls_of : List Placed → List Ball
balls_of xs = with_balls [] xs

-- `this` has the deliveries of the over in progress, `last` those of the over called last in the open innings
pub record AreOversOf (overs : Overs) (h : History) : Type 0 where
  pub this : balls_of (overs.this).now ≡ open_over h
  pub last : balls_of (overs.last).now ≡ last_called_over h
