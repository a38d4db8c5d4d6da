use Rattle.json_fields.proofs.Putting.{ends, starts}
use Rattle.scoreboard.proofs.now.put_overs.Goals as goal

pub returns : goal.returns
returns c = ends c.put_over-2.result _ _ (starts c.in_ok-put_over.ensures) c.put_over-2.ensures
