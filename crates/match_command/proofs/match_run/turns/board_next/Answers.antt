use Rattle.board.specs.Board.{game_of, rules_of}
use Rattle.match_command.specs.inner.Turns.{board_at}
use Rattle.match_command.proofs.OnlineLemmas.{came_to_board}
use Rattle.match_command.proofs.match_run.turns.board_next.Goals as goal

pub returns-in-Datagram-clause-online : goal.returns-in-Datagram-clause-online
returns-in-Datagram-clause-online g c = λ start entries o.
    came_to_board (game_of c.args.board.now) start (rules_of (λ book. book.innings_a_side) c.args.board.now) entries _ _ _ (board_at c.args.board.now)
    (board_at c.receive.new.self) c.receive.result c.in-Datagram.ensures.1 c.receive.ensures.step o
