use Rattle.std.proofs.Common.{arith}
use Rattle.match_command.proofs.OnlineLemmas.{asked_online}
use Rattle.match_command.proofs.match_run.turns.board_turn.Goals as goal

pub loop-init : goal.loop-init
loop-init g c = (
  grind arith,
  λ start entries o. asked_online (λ book. book.entries) c.args.board.now start entries _ _ c.tick.ensures (rw c.turn_to.ensures o),
)

pub loop-preserved : goal.loop-preserved
loop-preserved g c =
    let m = c.loop.invariant in
    let next = c.board_next.ensures in
    (grind (arith, m.0, next.same), λ start entries o. (rw m.0.game at (next.online start entries)) (m.1 start entries o))
