use Rattle.std.proofs.Common.{◌≡◌, Some, arith}
use Rattle.schedule_replay.specs.SeenWords.{refusal_number}
use Rattle.replay_command.proofs.WorldRuns.{refuses_one, starts, steps, takes_all}
use Rattle.replay_command.proofs.replay.step.step_all.Goals as goal

pub loop-before-init : goal.loop-before-init
loop-before-init c =
    let outcomes = c.in_ok-outcomes.ensures in
    (starts _ _ _ _ _ _ c.in_ok-world.ensures outcomes.items, outcomes.capacity, outcomes.len, omega arith)

pub loop-before-preserved : goal.loop-before-preserved
loop-before-preserved c =
    let m = c.loop-before.invariant in
    let pushed = rw c.unwrap.ensures at c.push.ensures.items in
    let next = steps m.0 _ _ c.loop-before-test.true c.index-events-before.is c.in-Ok.seen c.in-Ok.ensures.step c.in-Ok.ensures.same in
    (rw pushed next, omega (arith, m.1, c.push.ensures.capacity), omega (arith, m.2, rw c.unwrap.ensures at c.push.ensures.len), omega (arith, c.loop-before-test.true))

pub returns-in-Err : goal.returns-in-Err
returns-in-Err c =
    let numbered : refusal_number c.in-Err.refusal ≡ Some c.in-Some.why = let a = c.number.ensures in let b = c.in-Some.is in cc in
    record { stepped = refuses_one c.loop-before.invariant.0 _ _ c.loop-before-test.true c.index-events-before.is _ _ numbered c.in-Err.ensures.refused }

pub returns : goal.returns
returns c = record { stepped = takes_all c.loop-before.invariant.0 (omega (arith, c.loop-before.invariant.3, c.loop-before-test.false)) }
