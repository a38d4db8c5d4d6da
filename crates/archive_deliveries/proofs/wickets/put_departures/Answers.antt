use Rattle.archive_deliveries.specs.Wickets.{gone_of}
use Rattle.json_fields.proofs.Putting.{adds_each, ends_each, no_values}
use Rattle.archive_deliveries.proofs.wickets.put_departures.Goals as goal

pub loop-index-init : goal.loop-index-init
loop-index-init c = no_values _

pub loop-index-preserved : goal.loop-index-preserved
loop-index-preserved c =
    adds_each _ _ _ (λ x. gone_of c.args.sheet.now c.args.side x.item) c.args.notes.now c.loop-index.index
    c.noted_at-noted.result c.loop-index.invariant c.noted_at-noted.ensures c.in_ok-put_gone.ensures

pub returns : goal.returns
returns c =
    ends_each _ _ (λ x. gone_of c.args.sheet.now c.args.side x.item) c.args.notes.now _ c.loop-index.invariant c.loop-index-test.false
