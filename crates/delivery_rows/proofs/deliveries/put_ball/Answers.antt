use Rattle.delivery_rows.proofs.Putting.{adds_cells, ends_cells}
use Rattle.delivery_rows.proofs.deliveries.put_ball.Goals as goal

pub returns : goal.returns
returns c =
    let old = c.args.out.now.items in
    let split = c.runs_of-split.ensures.value in
    let two = adds_cells old _ _ _ _ c.in_ok-put_players.ensures (rw split at c.in_ok-put_runs.ensures) in
    let three = adds_cells old _ _ _ _ two (rw split at c.in_ok-put_kinds.ensures) in
    let four = adds_cells old _ _ _ _ three (rw split at c.in_ok-put_boundary.ensures) in
    ends_cells c.put_out.result old _ _ _ _ four c.put_out.ensures
