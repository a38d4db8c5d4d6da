use Rattle.std.proofs.Common.{ap, sym, ◌∙◌}
use Rattle.ball_laws.specs.Over.{bowled_in}
use Rattle.corrections.proofs.OverLemmas.{balls_more}
use Rattle.limits.proofs.bowling.bowled_among.Goals as goal

pub loop-placed-preserved : goal.loop-placed-preserved
loop-placed-preserved c =
    c.bowled_with-has_bowled.ensures _ c.loop-placed.invariant
    ∙ ap (bowled_in c.args.player) (sym (balls_more c.args.items.now c.loop-placed.placed-index _ c.loop-placed-test.true c.placed-item.is))
