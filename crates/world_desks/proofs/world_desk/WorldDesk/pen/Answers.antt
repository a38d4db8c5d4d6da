use Rattle.world_desks.proofs.world_desk.WorldDesk.pen.Goals as goal

pub returns-in-Old-clause-blame : goal.returns-in-Old-clause-blame
returns-in-Old-clause-blame c = rw c.in-Old.is c.pen.ensures.blame

pub returns-in-New-clause-blame : goal.returns-in-New-clause-blame
returns-in-New-clause-blame c = rw c.in-New.is c.pen-in-New.ensures.blame
