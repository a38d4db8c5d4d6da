use Rattle.std.proofs.Common.{[], take}
use Rattle.std.specs.Prelude.{Ok}
use Rattle.corrections.specs.inner.Scoring.{IsScoring}
use Rattle.plans.proofs.scoring.first_refused.Given as goal

abbrev pub invariant-loop-index : goal.invariant-loop-index
invariant-loop-index l = IsScoring (Ok l.score) l.innings_a_side [] (take l.index l.items)
