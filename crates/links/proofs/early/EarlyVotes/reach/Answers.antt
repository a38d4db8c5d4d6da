use Rattle.links.proofs.early.EarlyVotes.reach.Goals as goal

pub returns-after-loop : goal.returns-after-loop
returns-after-loop c = c.loop.invariant
