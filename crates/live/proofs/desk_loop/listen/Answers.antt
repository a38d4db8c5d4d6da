use Rattle.std.proofs.Common.{refl}
use Rattle.live.specs.Outside.{logs_of}
use Rattle.live.specs.Paces.{ticking_of}
use Rattle.live.proofs.DeskLemmas.{muted, passed_on, reads_clock, then}
use Rattle.live.proofs.desk_loop.listen.Goals as goal

pub returns-in_err-take_all-clause-goes : goal.returns-in_err-take_all-clause-goes
returns-in_err-take_all-clause-goes g c = λ turns.
    passed_on (logs_of g.L.Link.log g.K.Keys.inputs g.C.Clock.readings g.W.Sink.contents g.T.Tells.tellings c.args.outside.now) (logs_of g.L.Link.log g.K.Keys.inputs g.C.Clock.readings g.W.Sink.contents g.T.Tells.tellings c.take_all.new.outside) c.from_residual.result c.in_err-take_all.field-0.0 c.from_residual.ensures.1
    (c.in_err-take_all.ensures.goes turns)

pub returns-clause-goes : goal.returns-clause-goes
returns-clause-goes g c = λ turns.
    let pace = c.take_all.new.between.pace in
    then (muted c.remind.result (then (c.in_ok-take_all.ensures.goes turns)
    (reads_clock {ticking = ticking_of pace} c.millis-now.result pace.in_time c.millis-now.ensures refl)))
    (c.remind.ensures.goes c.args.sheet.now (record (logs_of g.L.Link.log g.K.Keys.inputs g.C.Clock.readings g.W.Sink.contents g.T.Tells.tellings c.take_all.new.outside) { readings = g.C.Clock.readings c.millis-now.new.self }) turns)
