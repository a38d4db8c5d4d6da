use Rattle.json_fields.proofs.Putting.{◌▸◌, ends, starts}
use Rattle.export.proofs.innings.put_rest.Goals as goal

pub returns : goal.returns
returns c = λ n h s b.
    rw (← b, ← c.in_ok-before.ensures, ← c.in_ok-after.ensures, ← c.requires.items, ← c.is_declared.ensures, ← c.is_forfeited.ensures)
    (ends c.put_miscounts.result _ _
    (starts c.in_ok-put_penalties.ensures ▸ c.in_ok-put_flag.ensures ▸ c.in_ok-put_flag-2.ensures ▸ (c.in_ok-put_target.ensures n h s)
    ▸ (rw (c.powerplays.ensures, c.limits.ensures) at c.in_ok-put_powerplays.ensures)) c.put_miscounts.ensures)
