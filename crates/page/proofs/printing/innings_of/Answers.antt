use Rattle.std.proofs.Common.{refl}
use Rattle.json_fields.proofs.Putting.{up_to-none}
use Rattle.page.proofs.Growing.{grows_up_to}
use Rattle.page.proofs.printing.innings_of.Goals as goal

pub loop-innings-init : goal.loop-innings-init
loop-innings-init c = λ n h s f e. rw (c.new-out.ensures.bytes, up_to-none) refl

pub loop-innings-preserved : goal.loop-innings-preserved
loop-innings-preserved c = λ n h s f e.
    grows_up_to _ _ _ c.loop-innings.innings (c.loop-innings.invariant n h s f e) (c.in_ok-put_innings.ensures n h s f e)
