use Rattle.std.proofs.Common.{◌≡◌, drop}
use Rattle.delivery_rows.specs.Cells.{is_formula}
use Rattle.delivery_rows.proofs.cells.is_formula.Given as goal

-- the text is a formula if and only if the rest of it from here on is one
abbrev pub invariant-loop-index : goal.invariant-loop-index
invariant-loop-index l = is_formula (drop l.index l.text) ≡ is_formula l.text
