use Rattle.std.proofs.Common.{arith, [], ◌∷◌, refl}
use Rattle.board.specs.Board.{game_of}
use Rattle.links.specs.declared.link.Receivers.TheVariants.{ToAll}
use Rattle.live.specs.Paces.{ticking_of}
use Rattle.live.proofs.BoardLemmas.{looks, speaks}
use Rattle.live.proofs.HearingLemmas.{hears_none, hears_nothing}
use Rattle.live.proofs.board_loop.say.Goals as goal

pub returns-then-is_due-clause-goes : goal.returns-then-is_due-clause-goes
returns-then-is_due-clause-goes g c = λ sheet shown seen turns had taken memory notices.
    let pace = c.args.pace.now in
    speaks {ticking = ticking_of pace} c.millis-now.result pace.in_time c.millis-now.ensures (grind arith) c.tick.ensures

pub returns-clause-goes : goal.returns-clause-goes
returns-clause-goes g c = λ sheet shown seen turns had taken memory notices.
    let pace = c.args.pace.now in
    looks {ticking = ticking_of pace} c.millis-now.result pace.in_time c.millis-now.ensures (grind arith)

pub returns-then-is_due-clause-hears : goal.returns-then-is_due-clause-hears
returns-then-is_due-clause-hears g c = λ told.
    hears_none (game_of c.args.board.now) ToAll c.tick.ensures.out (c.millis-now.result ∷ []) c.tick.ensures.passed c.millis-now.ensures

pub returns-clause-hears : goal.returns-clause-hears
returns-clause-hears g c = λ told. hears_nothing (game_of c.args.board.now) (c.millis-now.result ∷ []) refl c.millis-now.ensures refl
