use Rattle.std.proofs.Common.{arith}
use Rattle.page.proofs.Standing.{one_more}
use Rattle.page.proofs.stands.partnerships.Goals as goal

pub loop-index-preserved : goal.loop-index-preserved
loop-index-preserved c = (
  one_more c.args.innings c.args.moments.now c.loop-index.index c.moment_at-moment.result c.loop-index.stand _ _ _ _ c.moment_at-moment.ensures
      c.ended_in.ensures c.stand_in-stand.ensures.value c.in_ok-keep.ensures c.loop-index.invariant.0,
  omega (arith, c.stand_in-stand.ensures.runs, c.loop-index.invariant.1),
  omega (arith, c.stand_in-stand.ensures.balls, c.loop-index.invariant.2),
)
