use Rattle.desk.specs.Desk.{game_of}
use Rattle.match_command.proofs.OnlineLemmas.{came_to_desk}
use Rattle.match_command.proofs.match_run.turns.take_next.Goals as goal

pub returns-in-Ok-clause-online : goal.returns-in-Ok-clause-online
returns-in-Ok-clause-online g c = λ entries t start k o.
    c.in-Ok.ensures.online entries t start k (came_to_desk (game_of c.args.desk.now) entries _ _ _ c.in-Datagram.ensures.1 start k o)
