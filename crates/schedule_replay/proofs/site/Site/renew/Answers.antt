use Rattle.std.proofs.Common.{◌∙◌, Some, ap, arith, refl, sym}
use Rattle.std.proofs.lemmas.Result.{err_from_is_err_and}
use Rattle.schedule_replay.specs.declared.seen.Cause.{Cause}
use Rattle.schedule_replay.specs.Answers.{is_failing, wants_memory}
use Rattle.schedule_replay.proofs.DueLemmas.{keeps_down, keeps_not_found, no_failure}
use Rattle.schedule_replay.proofs.MigrateLemmas.{IsMoved, IsReturned, migrated, not_migrated}
use Rattle.schedule_replay.proofs.OpenLemmas.{stays_so}
use Rattle.schedule_replay.proofs.site.Site.renew.Goals as goal

pub returns-in_err-new-clause-refused : goal.returns-in_err-new-clause-refused
returns-in_err-new-clause-refused c =
    let p = err_from_is_err_and c.from_residual.result c.from_residual.ensures.1 in rw (p.1, p.2) (refl, stays_so c.args.self.now)

pub returns-in-Ok-clause-step : goal.returns-in-Ok-clause-step
returns-in-Ok-clause-step c = λ sent.
    let move = c.move_fault.ensures in
    let same = c.in-Ok.ensures.blame.same (λ q. (cc)) in
    migrated c.args.self.now c.unwrap-old.result c.move_fault.new.self c.in_ok-new.new c.move_fault.new.other c.in-Ok.migrated.new c.in-Ok.migrated.votes sent c.requires.version c.requires.down
    (sym c.take.ensures.value ∙ c.unwrap-old.ensures) (record { fresh_is = rw c.most_bytes.ensures at c.in_ok-new.ensures; here = move.here; there = move.there; due = move.due })
    c.in-Ok.ensures.found c.in-Ok.ensures.holds c.in-Ok.ensures.new_cap same.1

pub returns-in-Ok-clause-counted : goal.returns-in-Ok-clause-counted
returns-in-Ok-clause-counted c =
    let same = c.in-Ok.ensures.blame.same (λ q. (cc)) in
    grind (arith, c.requires.down, c.take.ensures.value, c.unwrap-old.ensures, same.1, c.move_fault.ensures.due)

pub returns-in-Err : goal.returns-in-Err
returns-in-Err c =
    let old = c.args.self.now in
    let last = c.move_fault-in-Err.new.other in
    let why = c.in-Err.why in
    let e = c.in-Err.ensures in
    let move = c.move_fault.ensures in
    let back = c.move_fault-in-Err.ensures in
    let there = sym c.take.ensures.value ∙ c.unwrap-old.ensures in
    let refused = c.not_found.ensures.refused in
    let moved : IsMoved old c.unwrap-old.result c.move_fault.new.self c.in_ok-new.new c.move_fault.new.other =
    record { fresh_is = rw c.most_bytes.ensures at c.in_ok-new.ensures; here = move.here; there = move.there; due = move.due } in
    let returned : IsReturned old c.unwrap-old.result c.move_fault.new.self c.move_fault.new.other c.in-Err.old c.in-Err.new last why =
    record { seen = e.old_seen; images = e.old_images; cap = e.old_cap; blame = e.blame; back = back.there; due = back.due } in
    let steps = not_migrated old c.unwrap-old.result c.move_fault.new.self c.in_ok-new.new c.move_fault.new.other c.in-Err.old c.in-Err.new last moved
    c.not_found.new.self c.not_found.result c.requires.version c.requires.down there why returned (e.not_empty, e.refused) refused in
    let keeps = keeps_not_found (wants_memory why) (is_failing why) (Cause.Migrate why) old c.not_found.new.self (Some last) c.not_found.result
    (λ n.
    let same = e.blame.same (λ q. no_failure why n (cc)) in
    keeps_down old c.unwrap-old.result last c.requires.down there (back.due ∙ ap (λ z. z.due) same.1 ∙ move.due))
    refused in
    record { step = steps.0; refused = steps.1; counted = keeps.0; same = keeps.1; whole = c.not_found.ensures.whole }
