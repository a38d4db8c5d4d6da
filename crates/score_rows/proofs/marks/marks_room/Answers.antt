use Rattle.score_rows.proofs.Items.{item_by_item}
use Rattle.score_rows.proofs.marks.marks_room.Goals as goal

pub loop-placed-preserved : goal.loop-placed-preserved
loop-placed-preserved c = grind item_by_item

pub returns : goal.returns
returns c = grind item_by_item
