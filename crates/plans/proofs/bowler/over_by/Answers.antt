use Rattle.std.proofs.lemmas.Grind.{common_steps}
use Rattle.std.proofs.Common.{arith}
use Rattle.plans.proofs.BowlerLemmas.{fixes-next, history-next}
use Rattle.plans.proofs.bowler.over_by.Goals as goal

pub loop-index-preserved : goal.loop-index-preserved
loop-index-preserved g c = grind (arith, common_steps, history-next, fixes-next)
