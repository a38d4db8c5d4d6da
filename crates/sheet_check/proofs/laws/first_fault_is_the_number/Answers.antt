use Rattle.sheet_check.proofs.FirstFaults.{first_fault}
use Rattle.sheet_check.proofs.laws.first_fault_is_the_number.Goals as goal

pub returns : goal.returns
returns c ms = first_fault ms
