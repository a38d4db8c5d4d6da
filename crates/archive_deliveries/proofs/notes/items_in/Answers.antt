use Rattle.std.proofs.Common.{append_assoc}
use Rattle.std.proofs.lemmas.Bool.{eq-eqb, ne_eqb}
use Rattle.corrections.proofs.ListLemmas.{next}
use Rattle.archive_deliveries.proofs.notes.items_in.Goals as goal
use Rattle.archive_deliveries.proofs.notes.items_in.Goals.{then-noted-innings+in_ok-push, else-noted-innings}

pub loop-index-preserved : goal.loop-index-preserved
loop-index-preserved c =
    let m = c.loop-index.invariant in
    let here = next c.args.notes.now c.loop-index.index c.noted_at-noted.result c.noted_at-noted.ensures in
    elim c.if-noted-innings.branch [
      | then-noted-innings+in_ok-push w ↦
          rw (w.items-is, w.in_ok-push.ensures.items, append_assoc c.loop-index.items.items) (rw (here, eq-eqb _ _ w.if-noted-innings.true) at m)
      | else-noted-innings w ↦ rw w.items-is (rw (here, ne_eqb _ _ w.if-noted-innings.false) at m)
    ]
