use Rattle.delivery_rows.proofs.CellLemmas.{reads_back}
use Rattle.delivery_rows.proofs.laws.rows_read_back.Goals as goal

pub returns : goal.returns
returns c rows = reads_back rows
