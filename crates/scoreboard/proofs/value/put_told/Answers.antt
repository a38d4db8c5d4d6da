use Rattle.json_fields.proofs.Putting.{◌▸◌, begins, is_object}
use Rattle.scoreboard.proofs.value.put_told.Goals as goal

pub returns : goal.returns
returns g c =
    is_object c.end_object.result _ (begins c.in_ok-begin_object.ensures ▸ c.in_ok-put_book.ensures ▸ c.in_ok-put_heard.ensures ▸ c.in_ok-put_trouble.ensures) c.end_object.ensures
