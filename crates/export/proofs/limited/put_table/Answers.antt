use Rattle.json_fields.proofs.Putting.{◌▸◌, begins, is_object_field}
use Rattle.export.proofs.limited.put_table.Goals as goal

pub returns : goal.returns
returns c =
    is_object_field c.end_object.result _
    (begins c.in_ok-begin_field.ensures ▸ (rw c.overs.ensures at c.in_ok-put_overs.ensures)
    ▸ (rw c.overs_a_bowler.ensures at c.in_ok-put_most.ensures) ▸ (rw c.free_hits.ensures at c.in_ok-put_flag.ensures)
    ▸ (rw c.powerplays.ensures at c.in_ok-put_powerplays.ensures)) c.end_object.ensures
