use Rattle.std.proofs.Common.{append_assoc}
use Rattle.std.proofs.lemmas.Result.{on_ok_weaker}
use Rattle.json_fields.proofs.Putting.{one_field, one_value}
use Rattle.desk_state.proofs.board_field.put_board_field.Goals as goal

pub returns : goal.returns
returns g c = on_ok_weaker c.put_board_value.result (λ last. rw last (rw c.in_ok-put_name.ensures (simp (one_field, one_value, append_assoc)))) c.put_board_value.ensures
