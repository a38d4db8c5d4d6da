use Rattle.std.proofs.Common.{refl, sym, ◌∙◌}
use Rattle.schedule_replay.specs.declared.seen.{Cause.Cause}
use Rattle.desk.specs.declared.refusal.Refusal.{Refusal}
use Rattle.std.proofs.lemmas.Option.{slice_get_read}
use Rattle.schedule_replay.proofs.GiveLemmas.{calm_faults, give_breaks, give_runs_on}
use Rattle.schedule_replay.proofs.SiteLemmas.{broken_same}
use Rattle.schedule_replay.proofs.site.Site.give.Goals as goal
use Rattle.schedule_replay.proofs.DueLemmas.{breaks_none, keeps_none, keeps_running}

pub returns-then-is_fault : goal.returns-then-is_fault
returns-then-is_fault c = record {
  step = λ t.
      give_breaks c.args.self.now c.in-Some.desk c.receive-received.new.self c.args.message t c.index.result.now c.receive-received.result c.args.sent.now.items
      c.in-Some.is (slice_get_read c.args.sent.now.items _ c.args.message c.index.result.now refl c.requires.sent c.index.ensures)
      c.receive-received.ensures.step c.receive-received.ensures.owner c.receive-received.ensures.blame
      c.fail.new.self c.fail.result (sym c.is_fault.ensures ∙ c.if-is_fault.true) c.fail.ensures.broken;
  counted = keeps_none c.args.self.now c.fail.new.self (breaks_none c.args.self.now.due (Cause.Desk Refusal.Device) _ c.fail.result c.fail.new.self c.fail.ensures.broken);
  same = broken_same c.args.self.now.due (Cause.Desk Refusal.Device) c.args.self.now c.fail.new.self _ _ c.fail.result c.fail.ensures.broken;
  whole = c.fail.ensures.whole;
}

pub returns-clause-step : goal.returns-clause-step
returns-clause-step c = λ t. rw c.given.ensures
    (give_runs_on c.args.self.now c.in-Some.desk c.receive-received.new.self c.args.message t c.index.result.now c.receive-received.result c.args.sent.now.items
    c.in-Some.is (slice_get_read c.args.sent.now.items _ c.args.message c.index.result.now refl c.requires.sent c.index.ensures)
    c.receive-received.ensures.step c.receive-received.ensures.owner c.receive-received.ensures.blame
    c.hand_out.new.sent.items (sym c.is_fault.ensures ∙ c.if-is_fault.false) c.hand_out.ensures)

pub returns-clause-counted : goal.returns-clause-counted
returns-clause-counted c = keeps_running c.args.self.now c.in-Some.desk c.receive-received.new.self c.in-Some.is
    (calm_faults c.in-Some.desk c.receive-received.new.self c.receive-received.result c.receive-received.ensures.blame (sym c.is_fault.ensures ∙ c.if-is_fault.false))
