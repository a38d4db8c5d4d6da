use Rattle.std.proofs.Common.{[], ◌∷◌, arith, refl}
use Rattle.board.specs.Board.{game_of}
use Rattle.streams.specs.Watched.{stream_of}
use Rattle.live.specs.Runs.{untyped}
use Rattle.live.proofs.BoardLemmas.{lives_on, not_begun}
use Rattle.live.proofs.HearingLemmas.{hears_nothing, then_hears}
use Rattle.live.proofs.board_life.keep_board.Goals as goal

pub returns-in_err-begin-clause-lives : goal.returns-in_err-begin-clause-lives
returns-in_err-begin-clause-lives g c =
    not_begun (untyped (g.L.Link.log c.args.link.now) (g.C.Clock.readings c.args.clock.now) (g.W.Sink.contents (stream_of c.args.scoreboard.now.lines))) c.from_residual.result c.in_err-begin.field-0.0 c.millis.result c.from_residual.ensures.1 c.millis.ensures c.in_err-begin.ensures.seen

pub returns-clause-lives : goal.returns-clause-lives
returns-clause-lives g c =
    lives_on (untyped (g.L.Link.log c.args.link.now) (g.C.Clock.readings c.args.clock.now) (g.W.Sink.contents (stream_of c.args.scoreboard.now.lines))) c.run_board.result c.millis.result c.millis.ensures c.in_ok-begin.ensures.text (grind arith) c.run_board.ensures.runs

pub returns-in_err-begin-clause-hears : goal.returns-in_err-begin-clause-hears
returns-in_err-begin-clause-hears g c =
    hears_nothing (game_of c.args.board.now) (c.millis.result ∷ []) refl c.millis.ensures c.in_err-begin.ensures.heard

pub returns-clause-hears : goal.returns-clause-hears
returns-clause-hears g c =
    let game = game_of c.args.board.now in
    then_hears game (hears_nothing game (c.millis.result ∷ []) refl c.millis.ensures c.in_ok-begin.ensures.heard) c.run_board.ensures.hears
