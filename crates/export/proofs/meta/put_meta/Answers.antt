use Rattle.json_fields.proofs.Putting.{◌▸◌, begins, is_object_field}
use Rattle.export.proofs.meta.put_meta.Goals as goal

pub returns : goal.returns
returns c =
    is_object_field c.end_object.result _
    (begins c.in_ok-begin_field.ensures ▸ c.in_ok-put_text.ensures ▸ (rw c.created_in.ensures at c.in_ok-put_created.ensures)
    ▸ (rw c.revision_in.ensures at c.in_ok-put_number.ensures)) c.end_object.ensures
