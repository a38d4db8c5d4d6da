use Rattle.std.proofs.Common.{add-one}
use Rattle.page.proofs.bars.most_runs.Goals as goal

pub loop-index-preserved : goal.loop-index-preserved
loop-index-preserved c = rw (add-one, c.moment_at-moment.ensures) (rw (c.loop-index.invariant, c.runs_in.ensures) at c.larger-most.ensures)
