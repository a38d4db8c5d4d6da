use Rattle.std.proofs.Common.{[], append-nil, refl, sym}
use Rattle.board.specs.Board.{game_of}
use Rattle.live.proofs.BoardLemmas.{logged}
use Rattle.live.proofs.HearingLemmas.{hears_nothing}
use Rattle.live.proofs.board_loop.hear.Goals as goal

pub returns-in-Some-clause-goes : goal.returns-in-Some-clause-goes
returns-in-Some-clause-goes g c = λ bytes sheet logs seen turns had taken reads few came.
    c.recall.ensures.goes bytes sheet logs seen turns had taken reads few came

pub returns-in-None-clause-goes : goal.returns-in-None-clause-goes
returns-in-None-clause-goes g c = λ bytes sheet logs seen turns had taken reads few came.
    logged (sym came) (c.hear_on.ensures.goes bytes sheet logs seen turns had taken reads few)

pub returns-in-None-clause-hears : goal.returns-in-None-clause-hears
returns-in-None-clause-hears g c = λ times told. hears_nothing (game_of c.args.board.now) [] refl (rw append-nil) refl
