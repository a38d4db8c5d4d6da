use Rattle.match_command.proofs.TurnLemmas.{refused, voted}
use Rattle.match_command.proofs.match_run.turns.pen.Goals as goal

pub returns-in-Ok-clause-voted : goal.returns-in-Ok-clause-voted
returns-in-Ok-clause-voted g c = λ level. voted c.args.desk.now c.pen.new.self c.args.entry.now _ level c.in-Ok.ensures.owner c.in-Ok.ensures.step c.in-Ok.ensures.blame

pub returns-in-Err-clause-left : goal.returns-in-Err-clause-left
returns-in-Err-clause-left g c = λ level.
    rw c.pen_fault.ensures (refused c.args.desk.now c.pen.new.self c.args.entry.now c.args.number c.len-place.result c.in-Err.why level c.in-Err.ensures.owner c.in-Err.ensures.step)
