use Rattle.std.proofs.Common.{arith}
use Rattle.schedule_replay.proofs.ReplayLemmas.{ends_at, ends_unreported, takes_on}
use Rattle.schedule_replay.proofs.report.end_unreported.Goals as goal

pub returns-in-Err : goal.returns-in-Err
returns-in-Err c = λ game innings boards version taken.
    ends_at c.in-Err.why c.loop-number-test.true c.index-events-number.is (c.loop-number.invariant.0 game innings boards version taken)
    c.in-Err.ensures.refused

pub loop-number-preserved : goal.loop-number-preserved
loop-number-preserved c = (
  λ game innings boards version taken.
      takes_on c.in_default.field-0 c.loop-number-test.true c.index-events-number.is (c.loop-number.invariant.0 game innings boards version taken)
      c.in_default.ensures.step c.in_default.ensures.same,
  omega (arith, c.loop-number-test.true),
)

pub returns : goal.returns
returns c = λ game innings boards version taken.
    let m = c.loop-number.invariant in ends_unreported (omega (arith, m.1, c.loop-number-test.false)) (m.0 game innings boards version taken)
