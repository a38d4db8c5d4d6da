use Rattle.std.specs.BTreeMap.{values}
use Rattle.links.specs.Windows.{AreOf}
use Rattle.links.proofs.early.EarlyVotes.reach.Given as goal

abbrev pub invariant-loop : goal.invariant-loop
invariant-loop l = AreOf (values l.self.votes) (values l.initial.self.votes)
