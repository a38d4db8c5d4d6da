use Rattle.std.proofs.Common.{arith}
use Rattle.delivery_rows.proofs.Putting.{adds_up_to, begins_up_to, ends_up_to}
use Rattle.delivery_rows.proofs.innings.put_all.Goals as goal

pub loop-index-init : goal.loop-index-init
loop-index-init c = λ n h s b. begins_up_to _ _

pub loop-index-preserved : goal.loop-index-preserved
loop-index-preserved c = λ n h s b.
    adds_up_to _ _ _ _ c.loop-index.index (c.loop-index.invariant n h s b) (rw (c.side.ensures n h s, b) at c.in_ok-put_innings.ensures)

pub returns : goal.returns
returns c = λ n h s b.
    ends_up_to _ _ _ c.loop-index.index _ (c.loop-index.invariant n h s b) (omega (arith, c.begun-index-end.ensures.value n h s))
