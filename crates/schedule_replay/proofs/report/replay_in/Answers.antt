use Rattle.std.proofs.Common.{[], refl, arith}
use Rattle.schedule_replay.specs.declared.report.Report.{Report}
use Rattle.schedule_replay.proofs.ReplayLemmas.{all_read, begins_taken, ends_at, ends_unreported, goes_on, has_taken, notable, noted, reported, starts, takes_on}
use Rattle.schedule_replay.proofs.report.replay_in.Goals as goal

pub note-requires-clause-notable : goal.note-requires-clause-notable
note-requires-clause-notable c = notable (starts {events = []} c.requires.new {outcomes = []} refl c.in-Ok.ensures.empty) c.requires.boards

pub returns-in_default-clause-ends : goal.returns-in_default-clause-ends
returns-in_default-clause-ends c = c.end_unreported.ensures _ _ _ _ (begins_taken c.requires.new)

pub returns-in_default-with_capacity-clause-ends : goal.returns-in_default-with_capacity-clause-ends
returns-in_default-with_capacity-clause-ends c = c.end_unreported-in_default-with_capacity.ensures _ _ _ _ (begins_taken c.requires.new)

pub returns-in_default-note-clause-ends : goal.returns-in_default-note-clause-ends
returns-in_default-note-clause-ends c = c.end_unreported-in_default-note.ensures _ _ _ _ (begins_taken c.requires.new)

pub loop-number-init : goal.loop-number-init
loop-number-init c = (
  noted (starts c.requires.new c.in-Ok-with_capacity.ensures.items c.in-Ok.ensures.empty)
      c.in-Ok-note.ensures.noted c.in-Ok-note.ensures.scored,
  c.in-Ok-note.ensures.kept,
  c.in-Ok-with_capacity.ensures.capacity,
  c.in-Ok-with_capacity.ensures.len,
  omega arith,
)

pub unwrap-requires : goal.unwrap-requires
unwrap-requires c = let m = c.loop-number.invariant in c.push.ensures.succeeds (omega (arith, m.2, m.3, c.loop-number-test.true))

pub returns-in-Err-clause-ends : goal.returns-in-Err-clause-ends
returns-in-Err-clause-ends c =
    ends_at c.in-Err.why c.loop-number-test.true c.index-events-number.is (has_taken c.loop-number.invariant.0) c.in-Err.ensures.refused

pub note-requires-in-loop-number-clause-notable : goal.note-requires-in-loop-number-clause-notable
note-requires-in-loop-number-clause-notable c =
    notable (goes_on c.in-Ok-step.seen c.loop-number-test.true c.index-events-number.is c.loop-number.invariant.0
    c.in-Ok-step.ensures.step c.in-Ok-step.ensures.same) c.requires.boards

pub loop-number-preserved : goal.loop-number-preserved
loop-number-preserved c =
    let less = c.loop-number-test.true in
    let m = c.loop-number.invariant in
    let step = c.in-Ok-step.ensures in
    let note = c.in-Ok-note-2.ensures in (
      rw (rw c.unwrap.ensures at c.push.ensures.items)
          (noted (goes_on c.in-Ok-step.seen less c.index-events-number.is m.0 step.step step.same) note.noted note.scored),
      note.kept,
      omega (arith, m.2, c.push.ensures.capacity),
      omega (arith, m.3, rw c.unwrap.ensures at c.push.ensures.len),
      omega (arith, less),
    )

pub returns-in_default-note-2-clause-ends : goal.returns-in_default-note-2-clause-ends
returns-in_default-note-2-clause-ends c = c.end_unreported-in_default-note-2.ensures _ _ _ _
    (takes_on c.in-Ok-step.seen c.loop-number-test.true c.index-events-number.is (has_taken c.loop-number.invariant.0) c.in-Ok-step.ensures.step
    c.in-Ok-step.ensures.same)

pub agreed-requires : goal.agreed-requires
agreed-requires c = record { read = all_read c.loop-number.invariant.0 }

pub returns-in_default-agreed-clause-ends : goal.returns-in_default-agreed-clause-ends
returns-in_default-agreed-clause-ends c =
    let m = c.loop-number.invariant in ends_unreported (omega (arith, m.4, c.loop-number-test.false)) (has_taken m.0)

pub returns-clause-reported : goal.returns-clause-reported
returns-clause-reported c =
    let report : Report = record { outcomes = c.loop-number.outcomes; agreed = c.in-Ok-agreed.agreed; seen = c.loop-number.shown.seen } in
    let m = c.loop-number.invariant in
    reported report (omega (arith, m.4, c.loop-number-test.false)) m.0 m.1.once c.in-Ok-agreed.ensures
