use Rattle.schedule_replay.proofs.BoardLemmas.{one_more}
use Rattle.schedule_replay.proofs.boards.empty_boards.Goals as goal

pub loop-preserved : goal.loop-preserved
loop-preserved c =
    rw c.in_ok-push.ensures.items (one_more c.args.game c.args.innings_a_side c.loop.counter c.loop.boards.items _ c.loop.invariant
    c.in_ok-empty_board.ensures.fresh c.in_ok-empty_board.ensures.owner)
