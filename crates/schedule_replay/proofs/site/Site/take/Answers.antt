use Rattle.std.proofs.Common.{◌≡◌, Bool, false, None, length, refl, subst}
use Rattle.schedule_replay.specs.Refusals.{first_cause}
use Rattle.schedule_replay.specs.inner.Sites.{site_cause}
use Rattle.schedule_replay.proofs.TakeLemmas.{none_of, refused, wants_so}
use Rattle.schedule_replay.proofs.site.Site.take.Goals as goal
use Rattle.schedule_replay.proofs.site.Site.take.Goals.{In-Ok}

admitted : (c : In-Ok) → site_cause c.args.self.now c.args.sent.now.items c.args.event.now ≡ None
admitted c =
    subst (λ (down : Bool). first_cause false down (length c.args.sent.now.items) c.args.event.now ≡ None) (none_of c.args.self.now.desk c.is_none.result c.is_none.ensures) c.in-Ok.ensures.admitted

pub returns-in-Err-clause-takes : goal.returns-in-Err-clause-takes
returns-in-Err-clause-takes c =
    refused c.args.event.now c.args.self.now c.args.sent.now.items c.admit.new.sent.items c.in-Err.why c.in-Err.ensures.items
    (rw (← none_of c.args.self.now.desk c.is_none.result c.is_none.ensures) c.in-Err.ensures.refused)

pub returns-in-Pen-clause-takes : goal.returns-in-Pen-clause-takes
returns-in-Pen-clause-takes c = (admitted (goal.at.returns-in-Pen-clause-takes c).In-Ok, rw (c.in-Pen.is, ← c.in-Ok.ensures.items) c.pen.ensures.step)

pub returns-in-Give-clause-takes : goal.returns-in-Give-clause-takes
returns-in-Give-clause-takes c = (admitted (goal.at.returns-in-Give-clause-takes c).In-Ok, rw (c.in-Give.is, ← c.in-Ok.ensures.items) (c.give.ensures.step c.in-Give.field-1))

pub returns-in-Tick-clause-takes : goal.returns-in-Tick-clause-takes
returns-in-Tick-clause-takes c = (admitted (goal.at.returns-in-Tick-clause-takes c).In-Ok, rw (c.in-Tick.is, ← c.in-Ok.ensures.items) (c.tick.ensures.step c.in-Tick.field-0))

pub returns-in-Kill-clause-takes : goal.returns-in-Kill-clause-takes
returns-in-Kill-clause-takes c = (admitted (goal.at.returns-in-Kill-clause-takes c).In-Ok, rw (c.in-Kill.is, c.in-Ok.ensures.items) (c.kill.ensures.step c.args.sent.now.items))

pub returns-in-Power-clause-takes : goal.returns-in-Power-clause-takes
returns-in-Power-clause-takes c = (admitted (goal.at.returns-in-Power-clause-takes c).In-Ok, rw (c.in-Power.is, c.in-Ok.ensures.items) (c.power.ensures.step c.args.sent.now.items))

pub returns-in-FailAt-clause-takes : goal.returns-in-FailAt-clause-takes
returns-in-FailAt-clause-takes c = (admitted (goal.at.returns-in-FailAt-clause-takes c).In-Ok, rw (c.in-FailAt.is, c.in-Ok.ensures.items) (c.fail_at.ensures.step c.args.sent.now.items))

pub returns-in-StopAt-clause-takes : goal.returns-in-StopAt-clause-takes
returns-in-StopAt-clause-takes c = (admitted (goal.at.returns-in-StopAt-clause-takes c).In-Ok, rw (c.in-StopAt.is, c.in-Ok.ensures.items) (c.stop_at.ensures.step c.args.sent.now.items))

pub returns-in-Open-clause-takes : goal.returns-in-Open-clause-takes
returns-in-Open-clause-takes c =
    wants_so c.args.event.now _ c.args.self.now c.open.new.self c.args.sent.now.items c.admit.new.sent.items c.open.result c.in-Open.is
    (admitted (goal.at.returns-in-Open-clause-takes c).In-Ok) c.in-Ok.ensures.items c.open.ensures.step c.open.ensures.refused refl

pub returns-in-Migrate-clause-takes : goal.returns-in-Migrate-clause-takes
returns-in-Migrate-clause-takes c =
    wants_so c.args.event.now _ c.args.self.now c.migrate.new.self c.args.sent.now.items c.admit.new.sent.items c.migrate.result c.in-Migrate.is
    (admitted (goal.at.returns-in-Migrate-clause-takes c).In-Ok) c.in-Ok.ensures.items c.migrate.ensures.step c.migrate.ensures.refused refl
