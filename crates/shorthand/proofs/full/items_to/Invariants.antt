use Rattle.std.proofs.Common.{◌≡◌, [], take, drop}
use Rattle.corrections.specs.CleanList.{history}
use Rattle.shorthand.specs.Points.{history_to}
use Rattle.shorthand.proofs.full.items_to.Given as goal

abbrev pub invariant-loop-index : goal.invariant-loop-index
invariant-loop-index l =
    history_to l.belongs (history (take l.index l.items)) (drop l.index l.items) ≡ history_to l.belongs [] l.items
