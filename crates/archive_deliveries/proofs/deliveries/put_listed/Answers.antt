use Rattle.archive_deliveries.proofs.deliveries.put_listed.Goals as goal

pub returns-in_ok-penalty-in-Ball : goal.returns-in_ok-penalty-in-Ball
returns-in_ok-penalty-in-Ball c = rw (c.in-Ball.is, ← c.in_ok-penalty-in-Ball.ensures) c.put_delivery.ensures
