use Rattle.std.proofs.Common.{◌≡◌, None, drop}
use Rattle.shorthand.specs.Undo.{last_with}
use Rattle.shorthand.proofs.undo.last_among.Given as goal

abbrev pub invariant-loop-index : goal.invariant-loop-index
invariant-loop-index l = last_with l.last (drop l.index l.items) ≡ last_with None l.items
