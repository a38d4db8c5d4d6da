use Rattle.processes.proofs.Files.{empty_files}
use Rattle.processes.proofs.laws.empty_files_show_none.Goals as goal

pub returns : goal.returns
returns c = empty_files
