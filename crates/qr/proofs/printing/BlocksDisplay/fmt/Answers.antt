use Rattle.std.proofs.Common.{rules}
use Rattle.std.proofs.Output.{has_written_append}
use Rattle.qr.specs.Print.{block_at}
use Rattle.qr.proofs.RangeLemmas.{flat_map_range_more}
use Rattle.qr.proofs.printing.BlocksDisplay.fmt.Goals as goal

pub loop-column-preserved : goal.loop-column-preserved
loop-column-preserved g c = λ plain.
    let of = block_at c.args.self.now.code.now c.args.self.now.row in
    rw (flat_map_range_more of c.loop-column.column, ← c.block_at.ensures) (has_written_append _ _ _ _ _ _ (c.loop-column.invariant plain) (search rules))
