use Rattle.json_fields.proofs.Putting.{◌▸◌, begins, is_object_field}
use Rattle.archive_deliveries.proofs.miscounts.put_field.Goals as goal

pub returns : goal.returns
returns c = is_object_field c.end_object.result _ (begins c.in_ok-begin_field.ensures ▸ c.in_ok-put_each.ensures) c.end_object.ensures
