use Rattle.json_fields.proofs.Putting.{◌▸◌, ends, starts}
use Rattle.desk_state.proofs.head.put_head.Goals as goal

pub returns : goal.returns
returns c = ends c.put_held.result _ _ (starts c.in_ok-put_whose.ensures ▸ c.in_ok-put_pending.ensures) c.put_held.ensures
