use Rattle.std.proofs.Common.{List, [], length}
use Rattle.desk.specs.Desk.{SameOwner, game_of}
use Rattle.links.specs.Passed.{Passed}
use Rattle.match_command.specs.inner.Online.{IsOnline}
use Rattle.match_command.specs.inner.Turns.{AreCalm, AreLevel, board_at, book_at, innings_at}
use Rattle.books.proofs.TakenLines.{Midway}
use Rattle.match_command.proofs.MatchLines.{Reached}
use Rattle.match_command.proofs.match_run.take_lines.Given as goal

abbrev pub invariant-loop-line : goal.invariant-loop-line
invariant-loop-line g l =
    Midway (innings_at l.initial.stations.a) l.input l.lines l.number (book_at l.stations.a)
    × AreLevel l.stations.a l.stations.b l.stations.board
    × SameOwner l.initial.stations.a l.stations.a
    × SameOwner l.initial.stations.b l.stations.b
    × (AreCalm l.initial.stations.a l.initial.stations.b → AreCalm l.stations.a l.stations.b)
    × Reached (innings_at l.initial.stations.a) l.input l.lines l.number (book_at l.stations.a)
    × ((start : List Passed) → IsOnline (game_of l.initial.stations.a) start [] (g.L.Link.log l.initial.link) (board_at l.initial.stations.board)
    → IsOnline (game_of l.initial.stations.a) start (book_at l.stations.a) (g.L.Link.log l.link) (board_at l.stations.board))

abbrev pub decreases-loop-line : goal.decreases-loop-line
decreases-loop-line g l = length l.lines
