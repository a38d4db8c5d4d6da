use Rattle.std.proofs.Common.{rules}
use Rattle.std.proofs.Output.{has_written_append}
use Rattle.qr.specs.Print.{row_behind}
use Rattle.qr.proofs.RangeLemmas.{flat_map_range_more}
use Rattle.qr.proofs.printing.CodeDisplay.fmt.Goals as goal

pub loop-row-preserved : goal.loop-row-preserved
loop-row-preserved g c = λ plain.
    rw (flat_map_range_more (row_behind c.args.self.now) c.loop-row.row) (has_written_append _ _ _ _ _ _ (c.loop-row.invariant plain) (search rules))
