use Rattle.json_fields.proofs.Putting.{◌▸◌, begins, is_object_field}
use Rattle.archive_deliveries.proofs.deliveries.put_runs.Goals as goal

pub returns : goal.returns
returns c =
    rw (← c.in_ok-extras.ensures, ← c.in_ok-total.ensures)
    (is_object_field c.end_object.result _
    (begins c.in_ok-begin_field.ensures ▸ c.in_ok-put_figure.ensures ▸ c.in_ok-put_number.ensures ▸ c.in_ok-put_number-2.ensures
    ▸ c.in_ok-put_flag.ensures) c.end_object.ensures)
