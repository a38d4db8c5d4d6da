use Rattle.schedule_replay.proofs.BoardLemmas.{board_ticks}
use Rattle.schedule_replay.proofs.boards.tick_board.Goals as goal

pub returns : goal.returns
returns c = record {
  step = λ t. board_ticks c.args.board.now t c.as_slice-said.result.now c.tick-out.result.items c.args.sent.now.items c.extend_from_slice.new.self.items
      c.tick-out.ensures.step c.as_slice-said.ensures.value (rw c.unwrap.ensures at c.extend_from_slice.ensures.items);
}
