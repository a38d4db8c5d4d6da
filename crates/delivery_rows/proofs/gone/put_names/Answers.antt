use Rattle.delivery_rows.specs.Deliveries.{gone_name}
use Rattle.delivery_rows.proofs.Putting.{adds_each, ends_each}
use Rattle.delivery_rows.proofs.gone.put_names.Goals as goal

pub loop-index-preserved : goal.loop-index-preserved
loop-index-preserved c =
    adds_each _ _ _ (λ x. gone_name c.args.sheet.now c.args.side x.item) c.args.items.now c.loop-index.index c.noted_at-noted.result c.loop-index.invariant
    c.noted_at-noted.ensures c.in_ok-put_name.ensures

pub returns : goal.returns
returns c = ends_each _ _ (λ x. gone_name c.args.sheet.now c.args.side x.item) c.args.items.now c.loop-index.index c.loop-index.invariant c.loop-index-test.false
