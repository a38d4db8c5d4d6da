use Rattle.std.proofs.Common.{◌≡◌, [], ℕ, Ok, Result, ap, append-nil, arith, refl, subst}
use Rattle.board.specs.Board.{game_of}
use Rattle.streams.specs.Watched.{stream_of}
use Rattle.streams.specs.declared.watched.WriteFailed.{WriteFailed}
use Rattle.live.specs.Boards.{BoardRuns, unheard}
use Rattle.live.specs.Paces.{Paced}
use Rattle.live.specs.Runs.{untyped}
use Rattle.live.specs.Ticks.{unticked}
use Rattle.live.proofs.BoardLemmas.{finished, silent, stopped, then, unread, whole_turns}
use Rattle.live.proofs.HearingLemmas.{go_on_hearing, hears_nothing}
use Rattle.live.proofs.board_loop.run_board.Goals as goal

pub loop-number-init : goal.loop-number-init
loop-number-init g c = (
  rw c.requires.fresh (unread {ticking = unticked} (ap (λ (p : Paced). p.ticking) c.new.ensures)),
  hears_nothing (game_of c.args.board.now) [] refl (rw append-nil) refl,
)

pub loop-number-preserved : goal.loop-number-preserved
loop-number-preserved g c =
    let last = c.in_ok-turn.ensures.runs c.loop-number.number in (
      then c.loop-number.invariant.0 (whole_turns _ _ last.0 last.1),
      go_on_hearing (game_of c.args.board.now) c.loop-number.invariant.0.same.game c.loop-number.invariant.1 c.in_ok-turn.ensures.hears,
    )

pub returns-in_err-turn-clause-runs : goal.returns-in_err-turn-clause-runs
returns-in_err-turn-clause-runs g c =
    let last = (c.in_err-turn.ensures.runs c.loop-number.number).0 in
    (stopped _ (untyped (g.L.Link.log c.turn.new.link) (g.C.Clock.readings c.turn.new.clock) (g.W.Sink.contents (stream_of c.turn.new.scoreboard.lines))) last.last c.from_residual.result c.in_err-turn.field-0.0 c.from_residual.ensures.1 last.is last.noticed last.sighted
    (then (silent c.loop-number.invariant.0) last.goes)).0

pub returns-in_err-turn-clause-hears : goal.returns-in_err-turn-clause-hears
returns-in_err-turn-clause-hears g c =
    go_on_hearing (game_of c.args.board.now) c.loop-number.invariant.0.same.game c.loop-number.invariant.1 c.in_err-turn.ensures.hears

pub returns-clause-hears : goal.returns-clause-hears
returns-clause-hears g c = c.loop-number.invariant.1

pub returns-clause-runs : goal.returns-clause-runs
returns-clause-runs g c =
    let over : c.loop-number.number ≡ c.args.turns = omega (arith, c.loop-number.auto.number-end, c.loop-number-test.false) in
    let done : Result (Unit {0}) WriteFailed = Ok tt in
    subst (λ (turns : ℕ). BoardRuns g.B.BookOf.content g.B.BookOf.innings_a_side c.args.sheet.now c.args.board.now c.loop-number.board
    (untyped (g.L.Link.log c.args.link.now) (g.C.Clock.readings c.args.clock.now) (g.W.Sink.contents (stream_of c.args.scoreboard.now.lines)))
    (untyped (g.L.Link.log c.loop-number.link) (g.C.Clock.readings c.loop-number.clock) (g.W.Sink.contents (stream_of c.loop-number.scoreboard.lines))) 0 turns
    unheard unticked (g.N.Notices.told c.args.watch.now.notices) (g.N.Notices.told c.loop-number.watch.notices)
    (g.S.Shows.seen c.args.scoreboard.now.state) (g.S.Shows.seen c.loop-number.scoreboard.state) done) over (finished done c.loop-number.invariant.0).0
