use Rattle.delivery_rows.specs.Deliveries.{gone_way}
use Rattle.delivery_rows.proofs.Putting.{adds_each, ends_each}
use Rattle.delivery_rows.proofs.gone.put_ways.Goals as goal

pub loop-index-preserved : goal.loop-index-preserved
loop-index-preserved c =
    adds_each _ _ _ (λ x. gone_way x.item) c.args.items.now c.loop-index.index c.noted_at-noted.result c.loop-index.invariant
    c.noted_at-noted.ensures c.in_ok-put_way.ensures

pub returns : goal.returns
returns c = ends_each _ _ (λ x. gone_way x.item) c.args.items.now c.loop-index.index c.loop-index.invariant c.loop-index-test.false
