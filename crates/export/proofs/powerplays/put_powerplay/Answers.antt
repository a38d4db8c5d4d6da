use Rattle.json_fields.proofs.Putting.{◌▸◌, begins, is_object}
use Rattle.export.proofs.powerplays.put_powerplay.Goals as goal

pub returns : goal.returns
returns c =
    is_object c.end_object.result _
    (begins c.in_ok-begin_object.ensures ▸ (rw c.saturating_sub.ensures at c.in_ok-put_ball.ensures)
    ▸ (rw c.saturating_sub-2.ensures at c.in_ok-put_ball-2.ensures) ▸ c.in_ok-put_text.ensures) c.end_object.ensures
