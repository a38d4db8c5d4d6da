use Rattle.board.specs.Board.{SameMatch}
use Rattle.match_command.specs.inner.Turns.{KeepsDisk, KeepsOnline, KeepsTurn}
use Rattle.match_command.proofs.match_run.turns.Stations.agree.Given as goal

abbrev pub invariant-loop : goal.invariant-loop
invariant-loop g l =
    KeepsTurn l.initial.self.a l.self.a × KeepsTurn l.initial.self.b l.self.b
    × SameMatch (λ book. book.innings_a_side) l.initial.self.board l.self.board
    × KeepsDisk l.initial.self.a l.self.a × KeepsDisk l.initial.self.b l.self.b
    × KeepsOnline l.initial.self.a l.initial.self.b l.initial.self.board l.self.board (g.L.Link.log l.initial.link) (g.L.Link.log l.link)
