use Rattle.std.proofs.Common.{ap, arith, refl}
use Rattle.desk.specs.Desk.{state_of}
use Rattle.live.specs.Desks.{innings_of, kind_of}
use Rattle.live.specs.Outside.{logs_of}
use Rattle.live.specs.Paces.{Paced}
use Rattle.live.specs.Ticks.{unticked}
use Rattle.live.proofs.DeskLemmas.{reads_clock, then, unread}
use Rattle.live.proofs.DeskShownLemmas.{none_shown, then_shown}
use Rattle.live.proofs.DeskRunLemmas.{all_over, cut_short, not_greeted}
use Rattle.live.proofs.desk_life.take_turns.Goals as goal

pub loop-number-init : goal.loop-number-init
loop-number-init g c = (unread {ticking = unticked} (ap (λ (p : Paced). p.ticking) c.new.ensures), none_shown (kind_of c.args.sheet.now c.args.desk.now) c.args.sheet.now (innings_of c.args.desk.now) g.P.ShowsDesk.goes_on (state_of c.args.desk.now) c.args.page.now)

pub loop-number-preserved : goal.loop-number-preserved
loop-number-preserved g c =
    let goes = then c.loop-number.invariant.0 (c.in_ok-turn.ensures.goes c.loop-number.number) in
    (goes, then_shown c.loop-number.invariant.1 goes c.show.ensures)

pub returns-in_err-greet-clause-runs : goal.returns-in_err-greet-clause-runs
returns-in_err-greet-clause-runs g c = not_greeted c.from_residual.result c.in_err-greet.field-0.0 c.from_residual.ensures.1 c.in_err-greet.ensures.only c.in_err-greet.ensures.told

pub returns-in_err-turn-clause-runs : goal.returns-in_err-turn-clause-runs
returns-in_err-turn-clause-runs g c =
    let residual = c.from_residual-in_err-turn in
    cut_short (logs_of g.L.Link.log g.K.Keys.inputs g.C.Clock.readings g.W.Sink.contents g.T.Tells.tellings c.args.outside.now) c.in_ok-greet.ensures.text c.in_ok-greet.ensures.told (then (reads_clock {ticking = unticked} c.millis-now.result tt c.millis-now.ensures refl) c.loop-number.invariant.0) (logs_of g.L.Link.log g.K.Keys.inputs g.C.Clock.readings g.W.Sink.contents g.T.Tells.tellings c.turn.new.outside) residual.result c.in_err-turn.field-0.0 residual.ensures.1
    (c.in_err-turn.ensures.goes c.loop-number.number)

pub returns-clause-runs : goal.returns-clause-runs
returns-clause-runs g c =
    all_over (logs_of g.L.Link.log g.K.Keys.inputs g.C.Clock.readings g.W.Sink.contents g.T.Tells.tellings c.args.outside.now) c.in_ok-greet.ensures.text c.in_ok-greet.ensures.told (then (reads_clock {ticking = unticked} c.millis-now.result tt c.millis-now.ensures refl) c.loop-number.invariant.0) c.args.turns
    (omega (arith, c.loop-number.auto.number-end, c.loop-number-test.false))

pub returns-in_err-turn-clause-shown : goal.returns-in_err-turn-clause-shown
returns-in_err-turn-clause-shown g c = c.loop-number.invariant.1

pub returns-in_err-greet-clause-shown : goal.returns-in_err-greet-clause-shown
returns-in_err-greet-clause-shown g c = none_shown (kind_of c.args.sheet.now c.args.desk.now) c.args.sheet.now (innings_of c.args.desk.now) g.P.ShowsDesk.goes_on (state_of c.args.desk.now) c.args.page.now

pub returns-clause-shown : goal.returns-clause-shown
returns-clause-shown g c = c.loop-number.invariant.1
