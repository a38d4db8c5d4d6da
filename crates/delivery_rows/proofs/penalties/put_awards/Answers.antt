use Rattle.delivery_rows.proofs.Putting.{ends_rows}
use Rattle.delivery_rows.proofs.penalties.put_awards.Goals as goal

pub returns : goal.returns
returns c =
    ends_rows c.put_award-2.result _ _ _ _ _ (rw c.in_ok-before.ensures at c.in_ok-put_award.ensures)
    (rw c.in_ok-after.ensures at c.put_award-2.ensures)
