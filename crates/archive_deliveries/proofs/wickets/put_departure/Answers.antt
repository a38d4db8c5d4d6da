use Rattle.json_fields.proofs.Putting.{◌▸◌, begins, is_object}
use Rattle.archive_deliveries.proofs.wickets.put_departure.Goals as goal

pub returns : goal.returns
returns c =
    rw (← c.player.ensures, ← c.leave_words.ensures)
    (is_object c.end_object.result _
    (begins c.in_ok-begin_object.ensures ▸ c.in_ok-put_text.ensures ▸ c.in_ok-put_text-2.ensures) c.end_object.ensures)
