use Rattle.desk_state.proofs.OverLemmas.{shows_the_over}
use Rattle.desk_state.proofs.laws.the_over_is_shown.Goals as goal

pub returns : goal.returns
returns c = shows_the_over
