use Rattle.std.proofs.Common.{◌∙◌, [], ap, append-nil, arith, refl}
use Rattle.board.specs.Board.{game_of}
use Rattle.live.specs.Paces.{Paced, ticking_of}
use Rattle.live.proofs.BoardLemmas.{rests, then, unread}
use Rattle.live.proofs.HearingLemmas.{go_on_hearing, hears_nothing}
use Rattle.live.proofs.board_loop.take_all.Goals as goal

pub loop-taken-init : goal.loop-taken-init
loop-taken-init g c = (
  λ sheet told seen turns had. rests,
  λ some. absurd (omega (arith, some)),
  refl,
  hears_nothing (game_of c.args.board.now) [] refl (rw append-nil) refl,
  refl,
  refl,
)

pub loop-taken-preserved : goal.loop-taken-preserved
loop-taken-preserved g c =
    let next = c.if-not-take_next.ensures in (
      λ sheet told seen turns had.
          then (c.loop-taken.invariant.0 sheet told seen turns had) (next.taken refl sheet told seen turns had c.loop-taken.taken c.loop-taken-test.true),
      λ some. next.looked,
      next.game ∙ c.loop-taken.invariant.2,
      go_on_hearing (game_of c.args.board.now) c.loop-taken.invariant.2 c.loop-taken.invariant.3 next.hears,
      next.seen ∙ c.loop-taken.invariant.4,
      next.failed ∙ c.loop-taken.invariant.5,
    )

pub returns-after-loop-taken-clause-goes : goal.returns-after-loop-taken-clause-goes
returns-after-loop-taken-clause-goes g c = λ sheet told seen turns had. (
  c.loop-taken.taken,
  then (unread {ticking = ticking_of c.args.between.now.pace} (ap (λ (p : Paced). p.ticking) c.set_waits.ensures))
      (c.loop-taken.invariant.0 sheet told seen turns had),
)

pub returns-after-loop-taken-clause-looked : goal.returns-after-loop-taken-clause-looked
returns-after-loop-taken-clause-looked g c = c.loop-taken.invariant.1 (omega (arith, c.loop-taken.auto.taken-end, c.loop-taken-test.false))

pub returns-then-not-take_next-clause-goes : goal.returns-then-not-take_next-clause-goes
returns-then-not-take_next-clause-goes g c = λ sheet told seen turns had. (
  c.loop-taken.taken,
  then (unread {ticking = ticking_of c.args.between.now.pace} (ap (λ (p : Paced). p.ticking) c.set_waits.ensures))
      (then (c.loop-taken.invariant.0 sheet told seen turns had) (c.if-not-take_next.ensures.none refl sheet told seen turns had c.loop-taken.taken)),
)

pub returns-after-loop-taken-clause-hears : goal.returns-after-loop-taken-clause-hears
returns-after-loop-taken-clause-hears g c = c.loop-taken.invariant.3

pub returns-then-not-take_next-clause-hears : goal.returns-then-not-take_next-clause-hears
returns-then-not-take_next-clause-hears g c =
    go_on_hearing (game_of c.args.board.now) c.loop-taken.invariant.2 c.loop-taken.invariant.3 c.if-not-take_next.ensures.hears

pub returns-after-loop-taken-clause-seen : goal.returns-after-loop-taken-clause-seen
returns-after-loop-taken-clause-seen g c = c.loop-taken.invariant.4

pub returns-then-not-take_next-clause-seen : goal.returns-then-not-take_next-clause-seen
returns-then-not-take_next-clause-seen g c = c.if-not-take_next.ensures.seen ∙ c.loop-taken.invariant.4

pub returns-after-loop-taken-clause-failed : goal.returns-after-loop-taken-clause-failed
returns-after-loop-taken-clause-failed g c = c.loop-taken.invariant.5

pub returns-then-not-take_next-clause-failed : goal.returns-then-not-take_next-clause-failed
returns-then-not-take_next-clause-failed g c = c.if-not-take_next.ensures.failed ∙ c.loop-taken.invariant.5
