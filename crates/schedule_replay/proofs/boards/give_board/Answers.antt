use Rattle.std.proofs.Common.{[]}
use Rattle.std.proofs.lemmas.Option.{slice_get-get_or}
use Rattle.schedule_replay.proofs.BoardLemmas.{board_gives}
use Rattle.schedule_replay.proofs.boards.give_board.Goals as goal

pub returns-clause-step : goal.returns-clause-step
returns-clause-step c = λ t. rw c.seen_of.ensures (board_gives c.args.board.now c.receive-answer.new.self c.args.message t _ c.receive-answer.result c.args.sent.now
    (slice_get-get_or c.args.sent.now c.args.message (record { bytes = [] }) c.requires.sent) c.receive-answer.ensures.step)
