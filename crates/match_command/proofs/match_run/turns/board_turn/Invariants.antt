use Rattle.std.proofs.Common.{List}
use Rattle.notation.specs.declared.entry.Entry.{Entry}
use Rattle.board.specs.Board.{SameMatch, game_of}
use Rattle.links.specs.Passed.{Passed}
use Rattle.match_command.specs.inner.Online.{IsOnline}
use Rattle.match_command.specs.inner.Turns.{board_at}
use Rattle.match_command.proofs.match_run.turns.board_turn.Given as goal

abbrev pub invariant-loop : goal.invariant-loop
invariant-loop g l =
    SameMatch (λ book. book.innings_a_side) l.initial.board l.board
    × ((start : List Passed) (entries : List Entry) → IsOnline (game_of l.initial.board) start entries (g.L.Link.log l.fn.link)
    (board_at l.initial.board) → IsOnline (game_of l.initial.board) start entries (g.L.Link.log l.link) (board_at l.board))
