use Rattle.machine_files.specs.Calls.{Adds, AddsUntilFailed, Failed, TakeName, renewal}
use Rattle.machine_files.proofs.CallLemmas.{after_failure, first_failed, later_failed, told_by_failure}
use Rattle.machine_files.proofs.renewal.renew.Goals as goal

-- src/renewal.rt:47:5
pub returns-in_err-write_at-clause-failed : goal.returns-in_err-write_at-clause-failed
returns-in_err-write_at-clause-failed g c =
    let calls = g.F.Host.calls in
    let bytes = c.args.bytes.now in
    after_failure c.from_residual-in_err-write_at.result (AddsUntilFailed (calls c.args.file.now) (calls c.write_at.new.self) (renewal bytes))
    (later_failed (calls c.args.file.now) (calls c.cut.new.self) _ _ _ c.in_ok-cut.ensures.asked.0
    (first_failed (calls c.cut.new.self) _ _ _ c.in_err-write_at.ensures.asked.1))

-- src/renewal.rt:48:5
pub returns-in_err-sync-clause-failed : goal.returns-in_err-sync-clause-failed
returns-in_err-sync-clause-failed g c =
    let calls = g.F.Host.calls in
    let bytes = c.args.bytes.now in
    after_failure c.from_residual-in_err-sync.result (AddsUntilFailed (calls c.args.file.now) (calls c.sync.new.self) (renewal bytes))
    (later_failed (calls c.args.file.now) (calls c.cut.new.self) _ _ _ c.in_ok-cut.ensures.asked.0
    (later_failed (calls c.cut.new.self) (calls c.write_at.new.self) _ _ _ c.in_ok-write_at.ensures.asked.0
    (first_failed (calls c.write_at.new.self) _ _ _ c.in_err-sync.ensures.asked.1)))

-- src/renewal.rt:41:1
pub returns-clause-failed : goal.returns-clause-failed
returns-clause-failed g c =
    let calls = g.F.Host.calls in
    let bytes = c.args.bytes.now in
    told_by_failure c.take_name.result (Adds (calls c.sync.new.self) (calls c.take_name.new.self) (Failed TakeName))
    (AddsUntilFailed (calls c.args.file.now) (calls c.take_name.new.self) (renewal bytes))
    (λ failed. later_failed (calls c.args.file.now) (calls c.cut.new.self) _ _ _ c.in_ok-cut.ensures.asked.0
    (later_failed (calls c.cut.new.self) (calls c.write_at.new.self) _ _ _ c.in_ok-write_at.ensures.asked.0
    (later_failed (calls c.write_at.new.self) (calls c.sync.new.self) _ _ _ c.in_ok-sync.ensures.asked.0
    (first_failed (calls c.sync.new.self) _ _ _ failed))))
    c.take_name.ensures.asked.1
