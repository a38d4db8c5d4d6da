-- A walk over the items that stand, one item at a time.
use Rattle.std.specs.Prelude.{ℕ, ◌+◌, false, ◌||◌, nat_eq, List, [], ◌∷◌}
use Rattle.notation.specs.declared.entry.Plain.{Plain}
use Rattle.ball_laws.specs.History.{History, open_over, called_overs}
use Rattle.ball_laws.specs.Over.{bowled_in}
use Rattle.ball_laws.specs.Sums.{count_of, one_if}
use Rattle.corrections.specs.declared.placed.Placed.{Placed}
use Rattle.limits.specs.declared.bowling.Bowled.{Bowled}

-- the state after a walk over items: each item makes one step
abbrev pub walk : {S : Type 0} → (Plain → S → S) → S → List Placed → S
walk step s [] = s
walk step s (x ∷ xs) = walk step (step x.item s) xs

-- the state after a history, its oldest item first
abbrev pub along : {S : Type 0} → (Plain → S → S) → S → History → S
along step s [] = s
along step s (x ∷ h) = step x (along step s h)

abbrev pub none_bowled : Bowled
none_bowled = record { called = 0; this = false }

-- a player's count after one more item: in how many called overs the player bowled, and whether in the open one
abbrev pub bowled_after : ℕ → Plain → Bowled → Bowled
bowled_after p (Plain.Ball b) s = record { called = s.called; this = nat_eq b.bowler p || s.this }
bowled_after p Plain.Over s = record { called = s.called + one_if s.this; this = false }
bowled_after p (Plain.Innings side) s = none_bowled
bowled_after p (Plain.End cause) s = none_bowled
bowled_after p x s = s

abbrev pub bowled_of : ℕ → History → Bowled
bowled_of p h = record { called = count_of (bowled_in p) (called_overs h); this = bowled_in p (open_over h) }
