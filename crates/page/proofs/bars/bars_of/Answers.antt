use Rattle.std.proofs.Common.{[]}
use Rattle.page.specs.Bars.{over_in}
use Rattle.page.proofs.Growing.{grows_each, grows_all}
use Rattle.page.proofs.bars.bars_of.Goals as goal

pub loop-index-preserved : goal.loop-index-preserved
loop-index-preserved c =
    grows_each [] _ _ (over_in c.args.innings) c.args.moments.now c.loop-index.index _ c.loop-index.invariant c.moment_at-moment.ensures c.in_ok-put_over_in.ensures

pub returns : goal.returns
returns c = grows_all [] _ (over_in c.args.innings) c.args.moments.now c.loop-index.index c.loop-index.invariant c.loop-index-test.false
