use Rattle.desk_command.proofs.TypedLemmas.{were_typed}
use Rattle.desk_command.proofs.laws.every_vote_of_a_life_was_typed.Goals as goal

pub returns : goal.returns
returns c = were_typed
