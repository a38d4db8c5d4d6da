use Rattle.std.proofs.Common.{add-one}
use Rattle.page.proofs.growth.most_total.Goals as goal

pub loop-innings-preserved : goal.loop-innings-preserved
loop-innings-preserved c = λ n h s.
    rw add-one (rw (c.loop-innings.invariant n h s, c.total.ensures.value n h s) at c.larger-most.ensures)
