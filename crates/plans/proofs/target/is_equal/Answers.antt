use Rattle.plans.proofs.StandingLemmas.{written-same}
use Rattle.plans.proofs.target.is_equal.Goals as goal

pub returns : goal.returns
returns c = λ yes. written-same c.args.one.now c.args.other.now (c.is_same.ensures.0 yes)
