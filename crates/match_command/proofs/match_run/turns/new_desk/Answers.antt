use Rattle.desk.specs.Desk.{desk_of, state_of, view_of}
use Rattle.match_command.proofs.TurnLemmas.{begins}
use Rattle.match_command.proofs.match_run.turns.new_desk.Goals as goal

pub returns-in-Ok-clause-turn : goal.returns-in-Ok-clause-turn
returns-in-Ok-clause-turn g c =
    let made = c.in-Ok.desk in
    let is = c.in-Ok.ensures.owner in
    begins (view_of made) (desk_of made) (state_of made) (rw (← is.same_desk, ← is.same_game) at c.in-Ok.ensures.creates)
