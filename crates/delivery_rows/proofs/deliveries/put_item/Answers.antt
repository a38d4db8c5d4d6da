use Rattle.delivery_rows.proofs.deliveries.put_item.Goals as goal

pub returns-in_ok-penalty-in-Ball-clause-rows : goal.returns-in_ok-penalty-in-Ball-clause-rows
returns-in_ok-penalty-in-Ball-clause-rows c = rw (c.in-Ball.is, ← c.in_ok-penalty-in-Ball.ensures) c.put_delivery.ensures.row
