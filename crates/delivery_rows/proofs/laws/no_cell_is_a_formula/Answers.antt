use Rattle.delivery_rows.proofs.CellLemmas.{cell_is_plain, cells_are_apart}
use Rattle.delivery_rows.proofs.laws.no_cell_is_a_formula.Goals as goal

pub returns-clause-plain : goal.returns-clause-plain
returns-clause-plain c text = cell_is_plain text

pub returns-clause-apart : goal.returns-clause-apart
returns-clause-apart c text other e = cells_are_apart text other e
