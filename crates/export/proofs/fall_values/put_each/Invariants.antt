use Rattle.std.proofs.Common.{◌∷◌, []}
use Rattle.cards.proofs.Slots.{SoFar}
use Rattle.export.specs.Falls.{fall_value}
use Rattle.export.proofs.FallLemmas.{PutsValues}
use Rattle.export.proofs.fall_values.put_each.Given as goal

abbrev pub invariant-loop-index : goal.invariant-loop-index
invariant-loop-index l = SoFar PutsValues (λ k x. fall_value l.fn.sheet l.own.side l.innings l.there k x ∷ []) l.place-items l.index 0 l.initial.out l.out
