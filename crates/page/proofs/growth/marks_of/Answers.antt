use Rattle.std.proofs.Common.{[]}
use Rattle.page.specs.Growth.{mark_in}
use Rattle.page.proofs.Growing.{grows_each, grows_all}
use Rattle.page.proofs.growth.marks_of.Goals as goal

pub loop-index-preserved : goal.loop-index-preserved
loop-index-preserved c =
    grows_each [] _ _ (mark_in c.args.innings) c.args.moments.now c.loop-index.index _ c.loop-index.invariant c.moment_at-moment.ensures c.in_ok-put_mark_in.ensures

pub returns : goal.returns
returns c = grows_all [] _ (mark_in c.args.innings) c.args.moments.now c.loop-index.index c.loop-index.invariant c.loop-index-test.false
