use Rattle.std.proofs.lemmas.Grind.{common_steps}
use Rattle.std.proofs.Common.{arith}
use Rattle.plans.proofs.DraftLemmas.{draft-none}
use Rattle.plans.proofs.draft.draft_of.Goals as goal

pub returns : goal.returns
returns g c = grind (arith, common_steps, draft-none)
