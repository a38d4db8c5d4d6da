use Rattle.json_fields.proofs.Putting.{◌▸◌, begins, is_object_field}
use Rattle.scoreboard.proofs.now.put_now.Goals as goal

pub returns : goal.returns
returns c = λ n h s are situation partnership.
    is_object_field c.end_object.result _
    (begins c.in_ok-begin_field.ensures ▸ (c.in_ok-put_players.ensures n h s are) ▸ (rw (are.this, are.last) at c.in_ok-put_overs.ensures)
    ▸ (c.in_ok-put_aim.ensures n h s) ▸ (rw situation at c.in_ok-put_situation.ensures) ▸ (rw partnership at c.in_ok-put_partnership.ensures)) c.end_object.ensures
