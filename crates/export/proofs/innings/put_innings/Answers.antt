use Rattle.json_fields.proofs.Putting.{◌▸◌, begins, is_object}
use Rattle.export.proofs.innings.put_innings.Goals as goal

pub returns : goal.returns
returns c = λ n h s b.
    is_object c.end_object.result _
    (begins c.in_ok-begin_object.ensures ▸ (rw (c.name.ensures, c.side-side.ensures n h s) at c.in_ok-put_text.ensures)
    ▸ (rw (c.side-side.ensures n h s, b, c.requires.items) at c.in_ok-put_overs_field.ensures) ▸ (c.in_ok-put_rest.ensures n h s b))
    c.end_object.ensures
