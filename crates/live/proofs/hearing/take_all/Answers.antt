use Rattle.std.proofs.Common.{Bool, Err, Result, arith}
use Rattle.live.specs.declared.ends.DeskEnd.{DeskEnd}
use Rattle.live.specs.Outside.{logs_of}
use Rattle.live.proofs.DeskLemmas.{muted, passed_on, rests, then}
use Rattle.live.proofs.hearing.take_all.Goals as goal

pub loop-taken-init : goal.loop-taken-init
loop-taken-init g c = (λ turns. rests, λ some. absurd (omega (arith, some)))

pub loop-taken-preserved : goal.loop-taken-preserved
loop-taken-preserved g c =
    (λ turns. then (c.loop-taken.invariant.0 turns) (c.in_ok-take_next.ensures.goes turns), λ some. c.in_ok-take_next.ensures.looked)

pub returns-after-loop-taken-clause-goes : goal.returns-after-loop-taken-clause-goes
returns-after-loop-taken-clause-goes g c = c.loop-taken.invariant.0

pub returns-after-loop-taken-clause-looked : goal.returns-after-loop-taken-clause-looked
returns-after-loop-taken-clause-looked g c = c.loop-taken.invariant.1 (omega (arith, c.loop-taken.auto.taken-end, c.loop-taken-test.false))

pub returns-then-not-branch-clause-goes : goal.returns-then-not-branch-clause-goes
returns-then-not-branch-clause-goes g c = λ turns. then (c.loop-taken.invariant.0 turns) (c.in_ok-take_next.ensures.goes turns)

pub returns-in_err-take_next-clause-goes : goal.returns-in_err-take_next-clause-goes
returns-in_err-take_next-clause-goes g c =
    let met : Result Bool DeskEnd = Err c.in_err-take_next.field-0.0 in
    λ turns. passed_on (logs_of g.L.Link.log g.K.Keys.inputs g.C.Clock.readings g.W.Sink.contents g.T.Tells.tellings c.args.outside.now) (logs_of g.L.Link.log g.K.Keys.inputs g.C.Clock.readings g.W.Sink.contents g.T.Tells.tellings c.take_next.new.outside) c.from_residual.result c.in_err-take_next.field-0.0 c.from_residual.ensures.1
    (then (muted met (c.loop-taken.invariant.0 turns)) (c.in_err-take_next.ensures.goes turns))
