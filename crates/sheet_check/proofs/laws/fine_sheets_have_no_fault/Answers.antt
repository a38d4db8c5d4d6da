use Rattle.sheet_check.proofs.FirstFaults.{fine_sheet}
use Rattle.sheet_check.proofs.laws.fine_sheets_have_no_fault.Goals as goal

pub returns : goal.returns
returns c ms sheet e = fine_sheet ms sheet e
