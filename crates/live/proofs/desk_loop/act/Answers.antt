use Rattle.std.proofs.Common.{ap, ◌∙◌}
use Rattle.live.specs.Outside.{logs_of}
use Rattle.live.specs.Paces.{Paced, ticking_of}
use Rattle.live.proofs.DeskLemmas.{muted, passed_on, reads_clock, then}
use Rattle.live.proofs.desk_loop.act.Goals as goal

pub returns-in_err-take_line-clause-goes : goal.returns-in_err-take_line-clause-goes
returns-in_err-take_line-clause-goes g c = λ turns.
    passed_on (logs_of g.L.Link.log g.K.Keys.inputs g.C.Clock.readings g.W.Sink.contents g.T.Tells.tellings c.args.outside.now) (logs_of g.L.Link.log g.K.Keys.inputs g.C.Clock.readings g.W.Sink.contents g.T.Tells.tellings c.take_line.new.outside) c.from_residual.result c.in_err-take_line.field-0.0 c.from_residual.ensures.1
    (c.in_err-take_line.ensures.goes turns)

pub returns-clause-goes : goal.returns-clause-goes
returns-clause-goes g c = λ turns.
    let pace = c.take_line.new.between.pace in
    let seen = ap (λ (p : Paced). p.ticking) c.set_waits.ensures ∙ ap (λ (p : Paced). p.ticking) c.note.ensures in
    then (muted c.listen.result (then (c.in_ok-take_line.ensures.goes turns)
    (reads_clock {ticking = ticking_of pace} c.millis-now.result pace.in_time c.millis-now.ensures seen)))
    (c.listen.ensures.goes turns)
