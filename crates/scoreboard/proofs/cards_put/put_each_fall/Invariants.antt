use Rattle.std.proofs.Common.{◌∷◌, []}
use Rattle.cards.proofs.Slots.{SoFar}
use Rattle.scoreboard.specs.Innings.{fall_value}
use Rattle.scoreboard.proofs.Rows.{PutsValues}
use Rattle.scoreboard.proofs.cards_put.put_each_fall.Given as goal

abbrev pub invariant-loop-index : goal.invariant-loop-index
invariant-loop-index l = SoFar PutsValues (λ k x. fall_value l.innings.sheet.now l.side l.there k x ∷ []) l.place-items l.index 0 l.initial.out l.out
