use Rattle.std.proofs.Common.{arith}
use Rattle.agree_core.proofs.WorkedSteps.{differs_and_agrees, failed_and_opened, stopped_and_opened, votes_of_no_book}
use Rattle.agree_core.proofs.step_laws.worked_steps.Goals as goal

pub returns : goal.returns
returns c = search (arith, differs_and_agrees, stopped_and_opened, failed_and_opened, votes_of_no_book)
