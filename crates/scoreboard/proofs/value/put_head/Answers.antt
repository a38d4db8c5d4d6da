use Rattle.json_fields.proofs.Putting.{◌▸◌, ends, starts}
use Rattle.scoreboard.proofs.value.put_head.Goals as goal

pub returns : goal.returns
returns c =
    ends c.put_figure.result _ _ (starts c.in_ok-put_text.ensures ▸ (rw (c.format.ensures.text, c.game.ensures) at c.in_ok-put_text-2.ensures)
    ▸ (rw c.title.ensures at c.in_ok-put_text-3.ensures)) c.put_figure.ensures
