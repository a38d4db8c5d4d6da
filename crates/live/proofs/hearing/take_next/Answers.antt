use Rattle.std.proofs.Common.{◌≡◌, ap, arith, refl, sym, take}
use Rattle.streams.specs.Watched.{stream_of}
use Rattle.live.specs.Ends.{known_until}
use Rattle.live.specs.Outside.{logs_of}
use Rattle.live.specs.Paces.{ticking_of}
use Rattle.live.proofs.DeskLemmas.{logged, passed_on, passes, reads_clock, then}
use Rattle.live.proofs.LostLemmas.{is_message}
use Rattle.live.proofs.hearing.take_next.Goals as goal

pub hear-requires : goal.hear-requires
hear-requires g c = is_message c.game.result (take c.in-Datagram.field-0 c.take_message.new.buffer) c.in-Datagram.read c.in-Datagram.ensures.1

pub returns-in_err-hear-in-Datagram-clause-goes : goal.returns-in_err-hear-in-Datagram-clause-goes
returns-in_err-hear-in-Datagram-clause-goes g c = λ turns.
    let heard = c.in_err-hear-in-Datagram in
    let said = c.say-wait in
    let old = logs_of g.L.Link.log g.K.Keys.inputs g.C.Clock.readings g.W.Sink.contents g.T.Tells.tellings c.args.outside.now in
    let before = record old { passed = g.L.Link.log said.new.link; readings = g.C.Clock.readings c.millis-now.new.self } in
    passed_on old (record before { passed = g.L.Link.log c.hear.new.link; told = g.W.Sink.contents (stream_of c.hear.new.out); tellings = g.T.Tells.tellings c.hear.new.teller })
    c.from_residual.result heard.field-0.0 c.from_residual.ensures.1
    (then (said.ensures.goes c.args.sheet.now (known_until heard.field-0.0 old) c.args.between.now.warned turns)
    (then (reads_clock {ticking = ticking_of said.new.pace} c.millis-now.result said.new.pace.in_time c.millis-now.ensures refl)
    (heard.ensures.goes _ before turns (rw c.game.ensures at c.in-Datagram.ensures.1) c.in-Datagram.ensures.0.1)))

pub returns-in_ok-hear-in-Datagram-clause-goes : goal.returns-in_ok-hear-in-Datagram-clause-goes
returns-in_ok-hear-in-Datagram-clause-goes g c = λ turns.
    let said = c.say-wait in
    let old = logs_of g.L.Link.log g.K.Keys.inputs g.C.Clock.readings g.W.Sink.contents g.T.Tells.tellings c.args.outside.now in
    let before = record old { passed = g.L.Link.log said.new.link; readings = g.C.Clock.readings c.millis-now.new.self } in
    then (said.ensures.goes c.args.sheet.now old c.args.between.now.warned turns)
    (then (reads_clock {ticking = ticking_of said.new.pace} c.millis-now.result said.new.pace.in_time c.millis-now.ensures refl)
    (c.in_ok-hear-in-Datagram.ensures.goes _ before turns (rw c.game.ensures at c.in-Datagram.ensures.1) c.in-Datagram.ensures.0.1))

pub returns-in_err-pass_over-in-Unopened-clause-goes : goal.returns-in_err-pass_over-in-Unopened-clause-goes
returns-in_err-pass_over-in-Unopened-clause-goes g c = λ turns.
    let over = c.in_err-pass_over-in-Unopened in
    let residual = c.from_residual-in_err-pass_over-in-Unopened in
    let said = c.say-wait in
    let old = logs_of g.L.Link.log g.K.Keys.inputs g.C.Clock.readings g.W.Sink.contents g.T.Tells.tellings c.args.outside.now in
    passed_on old (record old {
      passed = g.L.Link.log c.take_message.new.self;
      readings = g.C.Clock.readings said.new.clock;
      told = g.W.Sink.contents (stream_of c.pass_over.new.out);
      tellings = g.T.Tells.tellings c.pass_over.new.teller;
    }) residual.result over.field-0.0 residual.ensures.1
    (then (said.ensures.goes c.args.sheet.now (known_until over.field-0.0 old) c.args.between.now.warned turns)
    (logged (sym c.in-Unopened.ensures)
    (passes {ticking = ticking_of said.new.pace} said.new.pace.in_time (ap ticking_of over.ensures.pace) over.ensures.warned over.ensures.course over.ensures.text over.ensures.told)))

pub returns-in_ok-pass_over-in-Unopened-clause-goes : goal.returns-in_ok-pass_over-in-Unopened-clause-goes
returns-in_ok-pass_over-in-Unopened-clause-goes g c = λ turns.
    let passed = c.in_ok-pass_over-in-Unopened.ensures in
    let said = c.say-wait in
    then (said.ensures.goes c.args.sheet.now (logs_of g.L.Link.log g.K.Keys.inputs g.C.Clock.readings g.W.Sink.contents g.T.Tells.tellings c.args.outside.now) c.args.between.now.warned turns)
    (logged (sym c.in-Unopened.ensures) (passes {ticking = ticking_of said.new.pace} said.new.pace.in_time (ap ticking_of passed.pace) passed.warned passed.course passed.text passed.told))

pub returns-in-Nothing-clause-goes : goal.returns-in-Nothing-clause-goes
returns-in-Nothing-clause-goes g c = λ turns.
    let old = logs_of g.L.Link.log g.K.Keys.inputs g.C.Clock.readings g.W.Sink.contents g.T.Tells.tellings c.args.outside.now in
    let none : g.L.Link.log c.take_message.new.self ≡ g.L.Link.log c.say-wait.new.link = grind arith in
    logged (sym none) (c.say-wait.ensures.goes c.args.sheet.now old c.args.between.now.warned turns)
