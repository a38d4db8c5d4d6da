use Rattle.json_fields.proofs.Putting.{ends, starts}
use Rattle.desk_state.proofs.head.put_whose.Goals as goal

pub returns : goal.returns
returns c = ends c.put_desk.result _ _ (starts c.in_ok-put_match.ensures) c.put_desk.ensures
