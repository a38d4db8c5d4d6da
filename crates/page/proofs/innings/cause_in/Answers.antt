use Rattle.std.proofs.Common.{sym}
use Rattle.page.proofs.Causes.{found, passed}
use Rattle.page.proofs.innings.cause_in.Goals as goal

pub returns-then-is_some : goal.returns-then-is_some
returns-then-is_some c =
    found c.args.innings c.args.moments.now c.loop-index.index c.moment_at-moment.result c.end_in-cause.result c.moment_at-moment.ensures
    c.end_in-cause.ensures (sym c.if-is_some.ensures) c.loop-index.invariant

pub loop-index-preserved : goal.loop-index-preserved
loop-index-preserved c =
    passed c.args.innings c.args.moments.now c.loop-index.index c.moment_at-moment.result c.end_in-cause.result c.moment_at-moment.ensures
    c.end_in-cause.ensures (sym c.if-is_some.ensures) c.loop-index.invariant
