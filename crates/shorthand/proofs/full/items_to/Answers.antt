use Rattle.std.proofs.Common.{arith}
use Rattle.std.proofs.lemmas.Grind.{common_steps}
use Rattle.shorthand.proofs.Bowlers.{all_to_last}
use Rattle.shorthand.proofs.full.items_to.Goals as goal

pub returns-then-matches : goal.returns-then-matches
returns-then-matches c = grind (arith, common_steps, all_to_last)
