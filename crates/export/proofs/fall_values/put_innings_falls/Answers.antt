use Rattle.export.proofs.fall_values.put_innings_falls.Goals as goal

pub returns : goal.returns
returns c = λ n h s falls.
    rw (← falls, ← c.in_ok-there.ensures, ← c.as_slice.ensures.value) (c.put_each.ensures n h s)
