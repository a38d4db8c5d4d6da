use Rattle.std.proofs.lemmas.Grind.{common_steps}
use Rattle.std.proofs.Common.{arith}
use Rattle.shorthand.proofs.Standing.{other_fault}
use Rattle.shorthand.proofs.full.entry_in_full.Goals as goal

pub returns-in_err-text-in-Err-clause-value : goal.returns-in_err-text-in-Err-clause-value
returns-in_err-text-in-Err-clause-value g c = grind (arith, common_steps, other_fault)
