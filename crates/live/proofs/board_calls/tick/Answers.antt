use Rattle.live.proofs.board_calls.tick.Goals as goal

pub returns : goal.returns
returns g c =
    let step = c.tick.ensures.step in
    record { out = step.0; fine = step.1; passed = rw (c.as_slice.ensures.value, step.2) at c.send_each.ensures; step = step.3 }
