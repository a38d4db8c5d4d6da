use Rattle.std.proofs.Common.{◌∙◌}
use Rattle.streams.proofs.Appending.{appends_both}
use Rattle.schedule_replay.specs.CodeWorlds.{board_state}
use Rattle.replay_command.specs.Replay.{board_line}
use Rattle.replay_command.proofs.ReplayTexts.{numbered_next}
use Rattle.replay_command.proofs.replay.print.print_boards.Goals as goal

pub loop-before-preserved : goal.loop-before-preserved
loop-before-preserved g c =
    let board = c.index-boards-before in
    let more = numbered_next (λ n k. board_line n (board_state k)) 1 c.args.boards.now c.loop-before.before board.result _ c.loop-before-test.true board.is in
    record {
      written = rw more (appends_both _ _ _ _ _ c.loop-before.invariant.written c.in_ok-print_board.ensures.text);
      sound = c.in_ok-print_board.ensures.failed.1 ∙ c.loop-before.invariant.sound;
    }
