use Rattle.std.proofs.Common.{◌≡◌, ◌++◌, drop}
use Rattle.delivery_rows.specs.Cells.{rows_text}
use Rattle.delivery_rows.specs.Deliveries.{rows_from}
use Rattle.delivery_rows.specs.Innings.{of}
use Rattle.delivery_rows.proofs.innings.put_rows.Given as goal

-- the rows written so far and the rows of the items left are all rows
abbrev pub invariant-loop-index : goal.invariant-loop-index
invariant-loop-index l = l.out.items ++ rows_text (of l.innings rows_from l.standing l.early (drop l.index l.items))
    ≡ l.initial.out.items ++ rows_text (of l.innings rows_from l.fn.start l.first l.items)
