use Rattle.std.proofs.Common.{sym}
use Rattle.board.specs.Board.{game_of, rules_of, state_of}
use Rattle.live.proofs.BoardLemmas.{passed_by}
use Rattle.live.proofs.RoundLemmas.{unrecalled}
use Rattle.live.proofs.board_loop.hear_on.Goals as goal

pub returns-then-is_stopped-clause-goes : goal.returns-then-is_stopped-clause-goes
returns-then-is_stopped-clause-goes g c = λ bytes sheet logs seen turns had taken reads few.
    let board = c.args.board.now in
    passed_by bytes c.args.between.now.pace.in_time few (sym c.if-is_stopped.ensures)
    (unrecalled (rules_of g.B.BookOf.innings_a_side board) (game_of board) (state_of g.B.BookOf.content board) (state_of g.B.BookOf.content board) bytes c.args.read.now reads
    c.args.watch.now.witness c.requires.kept)
