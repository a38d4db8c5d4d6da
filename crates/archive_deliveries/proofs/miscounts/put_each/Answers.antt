use Rattle.std.proofs.Common.{sym, ◌∙◌}
use Rattle.std.proofs.lemmas.List.{drop_all}
use Rattle.corrections.proofs.ListLemmas.{next}
use Rattle.json_fields.proofs.Putting.{fields_due, no_fields}
use Rattle.archive_deliveries.proofs.miscounts.put_each.Goals as goal
use Rattle.archive_deliveries.proofs.miscounts.put_each.Goals.{then-is_miscounted+in_ok-put_miscount, else-is_miscounted}

pub loop-index-preserved : goal.loop-index-preserved
loop-index-preserved c =
    let here = next c.args.items.now c.loop-index.index c.noted_at-noted.result c.noted_at-noted.ensures in
    elim c.if-is_miscounted.branch [
      | then-is_miscounted+in_ok-put_miscount w ↦
          let is = sym c.is_miscounted.ensures ∙ w.if-is_miscounted.true in
          rw w.out-is (fields_due _ _ _ _ _ w.in_ok-put_miscount.ensures (rw (here, is) at c.loop-index.invariant))
      | else-is_miscounted w ↦
          let not = sym c.is_miscounted.ensures ∙ w.if-is_miscounted.false in rw w.out-is (rw (here, not) at c.loop-index.invariant)
    ]

pub returns : goal.returns
returns c = no_fields _ ∙ (rw (drop_all _ _ c.loop-index-test.false) at c.loop-index.invariant)
