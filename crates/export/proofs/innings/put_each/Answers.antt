use Rattle.json_fields.proofs.Putting.{adds_up_to}
use Rattle.export.proofs.innings.put_each.Goals as goal

pub loop-innings-preserved : goal.loop-innings-preserved
loop-innings-preserved c = λ n h s b.
    adds_up_to _ _ _ _ c.loop-innings.innings (c.loop-innings.invariant n h s b) (c.in_ok-put_innings.ensures n h s b)
