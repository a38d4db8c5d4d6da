use Rattle.board.specs.Board.{game_of}
use Rattle.streams.specs.Watched.{stream_of}
use Rattle.live.specs.Boards.{BoardGoes, at_turn, memory_of, unheard}
use Rattle.live.specs.Hearings.{Hears}
use Rattle.live.specs.Paces.{ticking_of}
use Rattle.live.specs.Runs.{untyped}
use Rattle.live.specs.Ticks.{unticked}
use Rattle.live.proofs.board_loop.run_board.Given as goal

abbrev pub invariant-loop-number : goal.invariant-loop-number
invariant-loop-number g l =
    (BoardGoes g.B.BookOf.content g.B.BookOf.innings_a_side l.sheet l.initial.board l.board
    (at_turn g.B.BookOf.content l.initial.board 0 unheard unticked (g.N.Notices.told l.initial.watch.notices) (g.S.Shows.seen l.initial.scoreboard.state))
    (at_turn g.B.BookOf.content l.board l.number (memory_of l.between.telling l.watch.witness l.between.later) (ticking_of l.between.pace) (g.N.Notices.told l.watch.notices) (g.S.Shows.seen l.scoreboard.state))
    (untyped (g.L.Link.log l.initial.link) (g.C.Clock.readings l.initial.clock) (g.W.Sink.contents (stream_of l.initial.scoreboard.lines)))
    (untyped (g.L.Link.log l.link) (g.C.Clock.readings l.clock) (g.W.Sink.contents (stream_of l.scoreboard.lines))))
    × Hears (game_of l.initial.board) (g.L.Link.log l.initial.link) (g.L.Link.log l.link) (g.C.Clock.readings l.initial.clock) (g.C.Clock.readings l.clock)
    (g.S.Shows.heard l.initial.scoreboard.state) (g.S.Shows.heard l.scoreboard.state)
