use Rattle.json_fields.proofs.Putting.{adds_values, ends_values}
use Rattle.archive_deliveries.proofs.wickets.put_each.Goals as goal

pub returns : goal.returns
returns c = ends_values c.put_departures-2.result _ _ _ _ _ (adds_values _ _ _ _ _ c.in_ok-put_departures.ensures c.in_ok-put_own.ensures) c.put_departures-2.ensures
