use Rattle.std.proofs.Common.{arith, refl}
use Rattle.match_command.proofs.TurnLemmas.{ticked_online}
use Rattle.match_command.proofs.match_run.turns.desk_turn.Goals as goal

pub loop-init : goal.loop-init
loop-init g c = (
  record { turn = λ entries t. t; calm = λ calm. calm },
  record { owner = grind arith; disk = (refl, refl) },
  λ entries t. rw c.turn_to.ensures at (ticked_online c.args.desk.now entries _ _ c.tick.ensures t),
)

pub loop-preserved : goal.loop-preserved
loop-preserved g c =
    let m = c.loop.invariant in
    let next = c.in_ok-take_next.ensures in (
      record { turn = λ entries t. next.kept.turn entries (m.0.turn entries t); calm = λ calm. next.kept.calm (m.0.calm calm) },
      grind (arith, m.1, c.take_next.ensures.disk),
      λ entries t start k o. (rw m.1.owner.game at (next.online entries (m.0.turn entries t))) start k (m.2 entries t start k o),
    )
