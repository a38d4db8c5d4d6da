use Rattle.std.proofs.lemmas.Grind.{common_steps}
use Rattle.std.proofs.Common.{arith}
use Rattle.corrections.proofs.CheckpointLemmas.{on_ok_then}
use Rattle.plans.proofs.DraftLemmas.{draft-more}
use Rattle.plans.proofs.StandingLemmas.{in_range-at}
use Rattle.plans.proofs.draft.Draft.enter.Goals as goal

pub first_refused-requires-clause-in_range : goal.first_refused-requires-clause-in_range
first_refused-requires-clause-in_range g c = grind (arith, common_steps, in_range-at)

pub returns-in-None : goal.returns-in-None
returns-in-None g c = grind (arith, common_steps, draft-more, on_ok_then)
