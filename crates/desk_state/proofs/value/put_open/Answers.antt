use Rattle.json_fields.proofs.Putting.{◌▸◌, begins, is_object}
use Rattle.desk_state.proofs.value.put_open.Goals as goal

pub returns : goal.returns
returns g c =
    is_object c.end_object.result _ (begins c.in_ok-begin_object.ensures ▸ c.in_ok-put_whose.ensures ▸ c.in_ok-put_book.ensures) c.end_object.ensures
