use Rattle.std.proofs.Common.{[]}
use Rattle.page.specs.Overs.{moment_html}
use Rattle.page.proofs.Growing.{grows_each, grows_all}
use Rattle.page.proofs.overs.rows_of.Goals as goal

pub loop-index-preserved : goal.loop-index-preserved
loop-index-preserved c =
    grows_each [] _ _ (moment_html c.args.sheet.now c.args.side c.args.innings) c.args.moments.now c.loop-index.index _
    c.loop-index.invariant c.moment_at-moment.ensures c.in_ok-put_moment.ensures

pub returns : goal.returns
returns c =
    grows_all [] _ (moment_html c.args.sheet.now c.args.side c.args.innings) c.args.moments.now c.loop-index.index c.loop-index.invariant c.loop-index-test.false
