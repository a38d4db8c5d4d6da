use Rattle.std.proofs.Common.{append_assoc}
use Rattle.corrections.proofs.ListLemmas.{next}
use Rattle.page.proofs.stands.rows_of.Goals as goal

pub loop-index-preserved : goal.loop-index-preserved
loop-index-preserved c =
    rw (c.in_ok-put_row.ensures, append_assoc) (rw (next c.args.list.now c.loop-index.index c.partnership_at.result c.partnership_at.ensures) at c.loop-index.invariant)
