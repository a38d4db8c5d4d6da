use Rattle.std.proofs.lemmas.Grind.{common_steps}
use Rattle.std.proofs.Common.{arith}
use Rattle.corrections.proofs.ScoringLemmas.{refusal-is_void}
use Rattle.plans.proofs.scoring.take_item.Goals as goal

pub returns-then-is_void : goal.returns-then-is_void
returns-then-is_void c = grind (arith, common_steps, refusal-is_void)
