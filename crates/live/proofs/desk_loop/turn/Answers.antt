use Rattle.std.proofs.Common.{ap, arith, ℕ}
use Rattle.live.specs.Desks.{DeskGoes, process_of}
use Rattle.live.specs.Ends.{Course, further}
use Rattle.live.specs.Outside.{logs_of}
use Rattle.live.specs.Paces.{Paced, ticking_of}
use Rattle.live.specs.Runs.{Logs}
use Rattle.live.proofs.DeskLemmas.{not_flushed, turn_done, turn_passed_on}
use Rattle.live.proofs.desk_loop.turn.Goals as goal

pub returns-in_err-act-clause-goes : goal.returns-in_err-act-clause-goes
returns-in_err-act-clause-goes g c =
    let old = c.args in
    let new = c.act.new in
    λ turns. turn_passed_on c.from_residual.result c.in_err-act.field-0.0 turns
    (λ (after : ℕ) (course : Course) (known : Logs → Logs).
    DeskGoes old.sheet.now old.desk.now new.desk (process_of old.desk.now old.between.now.warned turns (ticking_of old.between.now.pace) further)
    (process_of new.desk new.between.warned after (ticking_of new.between.pace) course) (known (logs_of g.L.Link.log g.K.Keys.inputs g.C.Clock.readings g.W.Sink.contents g.T.Tells.tellings old.outside.now)) (known (logs_of g.L.Link.log g.K.Keys.inputs g.C.Clock.readings g.W.Sink.contents g.T.Tells.tellings new.outside)))
    c.from_residual.ensures.1 (c.in_err-act.ensures.goes turns)

pub returns-in_err-told-clause-goes : goal.returns-in_err-told-clause-goes
returns-in_err-told-clause-goes g c =
    let residual = c.from_residual-in_err-told in
    let met = c.in_err-told.field-0.0 in
    λ turns. not_flushed residual.result met _ residual.ensures.1 (grind arith) (c.in_ok-act.ensures.goes turns)

pub returns-clause-goes : goal.returns-clause-goes
returns-clause-goes g c = λ turns.
    turn_done {ticking = ticking_of c.act.new.between.pace} c.in_ok-act.ensures.looked c.act.new.between.pace.in_time (ap (λ (p : Paced). p.ticking) c.end_turn.ensures)
    (c.in_ok-act.ensures.goes turns) c.flush.ensures.bytes
