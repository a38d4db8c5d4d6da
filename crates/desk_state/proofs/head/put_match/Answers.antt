use Rattle.json_fields.proofs.Putting.{◌▸◌, ends, starts}
use Rattle.desk_state.proofs.head.put_match.Goals as goal

pub returns : goal.returns
returns c =
    ends c.put_text-3.result _ _ (starts c.in_ok-put_text.ensures ▸ (rw (c.format.ensures.text, c.game.ensures) at c.in_ok-put_text-2.ensures))
    (rw c.title.ensures at c.put_text-3.ensures)
