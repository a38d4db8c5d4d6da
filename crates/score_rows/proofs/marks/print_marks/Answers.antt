use Rattle.score_rows.proofs.Items.{item_by_item}
use Rattle.score_rows.proofs.marks.print_marks.Goals as goal

pub loop-placed-init : goal.loop-placed-init
loop-placed-init g c = grind item_by_item

pub loop-placed-preserved : goal.loop-placed-preserved
loop-placed-preserved g c = grind item_by_item

pub returns-clause-text : goal.returns-clause-text
returns-clause-text g c = grind item_by_item
