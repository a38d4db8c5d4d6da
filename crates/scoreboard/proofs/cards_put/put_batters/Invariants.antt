use Rattle.std.proofs.Common.{◌∷◌, []}
use Rattle.cards.specs.Begun.{ForInnings}
use Rattle.cards.proofs.Slots.{SoFar}
use Rattle.scoreboard.specs.Innings.{batter_of}
use Rattle.scoreboard.proofs.Rows.{PutsValues}
use Rattle.scoreboard.proofs.cards_put.put_batters.Given as goal

abbrev pub invariant-loop-place : goal.invariant-loop-place
invariant-loop-place l = ForInnings l.innings (λ s h i.
    SoFar PutsValues (λ k p. batter_of s h i p ∷ []) l.place-items l.place-index 0 l.initial.out l.out)
