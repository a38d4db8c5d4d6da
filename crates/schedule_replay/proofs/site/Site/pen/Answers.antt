use Rattle.std.proofs.Common.{refl, Ok}
use Rattle.schedule_replay.specs.Answers.{is_device}
use Rattle.schedule_replay.specs.declared.seen.Seen.{Seen}
use Rattle.schedule_replay.proofs.PenLemmas.{pen_refused, pen_runs_on, refused_same}
use Rattle.std.proofs.lemmas.List.{map-append}
use Rattle.schedule_replay.proofs.site.Site.pen.Goals as goal
use Rattle.schedule_replay.proofs.DueLemmas.{keeps_refused, keeps_running}

pub returns-in-Ok-clause-step : goal.returns-in-Ok-clause-step
returns-in-Ok-clause-step c =
    pen_runs_on c.args.self.now c.in-Some.desk c.pen.new.self c.args.entry.now c.args.sent.now.items c.in-Some.is c.in-Ok.ensures.owner
    (Ok c.in-Ok.penned) (Seen.Penned c.in-Ok.penned.settled) c.push.new.self.items c.in-Ok.ensures.step c.in-Ok.ensures.blame (λ e. (cc)) refl
    (rw (rw c.unwrap.ensures at c.push.ensures.items) (simp map-append))

pub returns-in-Ok-clause-counted : goal.returns-in-Ok-clause-counted
returns-in-Ok-clause-counted c = keeps_running c.args.self.now c.in-Some.desk c.pen.new.self c.in-Some.is (c.in-Ok.ensures.blame.same (λ e. (cc)))

pub returns-in-Err : goal.returns-in-Err
returns-in-Err c = record {
  step = pen_refused c.args.self.now c.in-Some.desk c.pen.new.self c.args.entry.now c.args.sent.now.items c.in-Some.is c.in-Err.ensures.owner
      c.refuse.new.self c.in-Err.why c.refuse.result c.in-Err.ensures.step c.in-Err.ensures.blame c.refuse.ensures.refused;
  counted = keeps_refused c.in-Err.why c.args.self.now c.refuse.new.self c.in-Some.desk c.pen.new.self c.refuse.result c.in-Some.is
      (λ n. c.in-Err.ensures.blame.same (λ e. n (cc))) c.refuse.ensures.refused;
  same = refused_same (is_device c.in-Err.why) c.in-Err.why c.args.self.now c.refuse.new.self c.pen.new.self c.refuse.result c.refuse.ensures.refused;
  whole = c.refuse.ensures.whole;
}
