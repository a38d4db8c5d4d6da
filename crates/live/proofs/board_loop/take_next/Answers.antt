use Rattle.std.proofs.Common.{[], ap, append-nil, refl, take}
use Rattle.board.specs.Board.{game_of}
use Rattle.live.specs.Boards.{memory_of}
use Rattle.live.specs.Paces.{ticking_of}
use Rattle.live.specs.Runs.{untyped}
use Rattle.live.proofs.BoardLemmas.{passed_over, reads_clock, then}
use Rattle.live.proofs.HearingLemmas.{hears_nothing, hears_one, none_came, then_hears}
use Rattle.live.proofs.LostLemmas.{is_message}
use Rattle.live.proofs.board_loop.take_next.Goals as goal

pub hear-requires : goal.hear-requires
hear-requires g c = is_message c.game.result (take c.in-Datagram.field-0 c.take_message.new.buffer) c.in-Datagram.read c.in-Datagram.ensures.1

pub returns-in-Datagram-clause-taken : goal.returns-in-Datagram-clause-taken
returns-in-Datagram-clause-taken g c = λ is sheet shown seen turns had taken few.
    let said = c.say-wait in
    then (said.ensures.goes sheet shown seen turns had taken _ _)
    (then (reads_clock {ticking = ticking_of said.new.pace} c.millis-now.result said.new.pace.in_time c.millis-now.ensures)
    (c.hear.ensures.goes _ sheet (untyped (g.L.Link.log said.new.link) (g.C.Clock.readings c.millis-now.new.self) shown) seen turns had taken
    (rw c.game.ensures at c.in-Datagram.ensures.1) few c.in-Datagram.ensures.0.1))

pub returns-in-Unopened-clause-taken : goal.returns-in-Unopened-clause-taken
returns-in-Unopened-clause-taken g c = λ is sheet shown seen turns had taken few.
    let said = c.say-wait in
    let unopened = c.pass_over.ensures in
    then (said.ensures.goes sheet shown seen turns had taken _ _)
    (passed_over {ticking = ticking_of said.new.pace} said.new.pace.in_time (ap ticking_of unopened.pace) few (λ i. memory_of (unopened.telling i) (unopened.witness i) (unopened.later i)) unopened.told c.in-Unopened.ensures)

pub returns-in-Datagram-clause-hears : goal.returns-in-Datagram-clause-hears
returns-in-Datagram-clause-hears g c =
    let game = game_of c.args.board.now in
    let clock = c.millis-now in
    let told = c.tell_heard in
    then_hears game (c.say-wait.ensures.hears (g.S.Shows.heard c.args.state.now))
    (then_hears game
    (hears_one game (take c.in-Datagram.field-0 c.take_message.new.buffer) c.in-Datagram.read clock.result
    (rw c.game.ensures at c.in-Datagram.ensures.1) c.in-Datagram.ensures.0.1 clock.ensures told.ensures.heard)
    (c.hear.ensures.hears (g.C.Clock.readings clock.new.self) (g.S.Shows.heard told.new.state)))

pub returns-in-Unopened-clause-hears : goal.returns-in-Unopened-clause-hears
returns-in-Unopened-clause-hears g c =
    let game = game_of c.args.board.now in
    then_hears game (c.say-wait.ensures.hears (g.S.Shows.heard c.args.state.now)) (hears_nothing game [] c.in-Unopened.ensures (rw append-nil) refl)

pub returns-in-Nothing-clause-hears : goal.returns-in-Nothing-clause-hears
returns-in-Nothing-clause-hears g c =
    let game = game_of c.args.board.now in
    then_hears game (c.say-wait.ensures.hears (g.S.Shows.heard c.args.state.now))
    (hears_nothing game [] (none_came c.game.result c.take_message.result c.take_message.new.buffer c.in-Nothing.is c.take_message.ensures) (rw append-nil) refl)
