use Rattle.live.proofs.hearing.entry_in.Goals as goal

pub returns-in-Ok-Vote-clause-entry : goal.returns-in-Ok-Vote-clause-entry
returns-in-Ok-Vote-clause-entry c = (rw c.in-Ok-Vote.field-0-is at (c.requires c.in-Ok-Vote.field-0 c.in-Ok-Vote.is)).1
