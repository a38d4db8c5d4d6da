use Rattle.std.proofs.Common.{◌≡◌, ◌++◌, ◌+◌, drop}
use Rattle.std.specs.Prelude.{string_bytes}
use Rattle.cards.specs.Columns.{lines_from}
use Rattle.page.specs.Stands.{row_html}
use Rattle.page.proofs.stands.rows_of.Given as goal

-- the rows so far and the rows of the partnerships left are all rows
abbrev pub invariant-loop-index : goal.invariant-loop-index
invariant-loop-index l = string_bytes l.out ++ lines_from row_html (l.index + 1) (drop l.index l.list) ≡ lines_from row_html 1 l.list
