use Rattle.std.proofs.Common.{◌∙◌}
use Rattle.desk_state.proofs.CheckLemmas.{checked}
use Rattle.desk_state.proofs.players.may_come_in.Goals as goal

pub returns : goal.returns
returns g c = c.is_ok.ensures.value ∙ checked c.check.result _ _ _ c.check.ensures
