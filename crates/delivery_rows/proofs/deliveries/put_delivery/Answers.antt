use Rattle.delivery_rows.proofs.RowTexts.{adds_row}
use Rattle.delivery_rows.proofs.deliveries.put_delivery.Goals as goal

pub returns-clause-row : goal.returns-clause-row
returns-clause-row c =
    let innings = c.args.innings in
    let named = innings.named in
    adds_row named.sheet.now innings.day.now named.side named.index _ _ _ _ _ _ innings.begins c.in_ok-extend_from_slice.ensures.items
    c.in_ok-put_cells.ensures c.in_ok-end_row.ensures
