use Rattle.ahead.proofs.queue.Queue.pass.Goals as goal

pub invariant_of-self-clause-ordered : goal.invariant_of-self-clause-ordered
invariant_of-self-clause-ordered c = c.passed.ensures.ordered c.args.self.now.ordered c.requires.held
