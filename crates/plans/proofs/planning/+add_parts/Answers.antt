use Rattle.std.proofs.Common.{◌≡◌, ◌-◌, List, Ok, MatchResult, Result, arith, subst, sym}
use Rattle.notation.specs.declared.entry.Entry.{Entry}
use Rattle.shorthand.specs.Lines.{Reason}
use Rattle.shorthand.specs.Full.{entry_in_full}
use Rattle.plans.specs.Planning.{parts_of, with_part, with_parts}
use Rattle.plans.specs.inner.Reading.{IsUnread}
use Rattle.plans.proofs.PlanLemmas.{parts_more, parts_one, unread_stays}
use Rattle.plans.proofs.planning.+add_parts.Goals as goal

pub returns-in-None-clause-value : goal.returns-in-None-clause-value
returns-in-None-clause-value g t c =
    let s = c.args.sheet.now in
    let book = g.B.BookOf.content c.args.book.now in
    let old : Result (List Entry) Reason = Ok c.args.wanted.now.items in
    subst (λ ps. MatchResult c.add_part-in-None.result (λ done. with_parts s book old ps ≡ Ok c.add_part-in-None.new.wanted.items) (IsUnread (with_parts s book old ps)))
    (sym (parts_one c.args.more c.args.text.now c.in-None.ensures)) c.add_part-in-None.ensures.value

pub returns-in-Ok-clause-value : goal.returns-in-Ok-clause-value
returns-in-Ok-clause-value g t c =
    let s = c.args.sheet.now in
    let book = g.B.BookOf.content c.args.book.now in
    let old : Result (List Entry) Reason = Ok c.args.wanted.now.items in
    let is = c.in-Some.ensures in
    let more = parts_of (c.args.more - 1) c.in-Some.rest.now in
    let parts = parts_more c.args.more c.args.text.now c.in-Some.first.now c.in-Some.rest.now (omega arith) is.0 is.1 is.2 in
    subst (λ ps. MatchResult c.add_parts.result (λ done. with_parts s book old ps ≡ Ok c.add_parts.new.wanted.items) (IsUnread (with_parts s book old ps))) (sym parts)
    (subst (λ x. MatchResult c.add_parts.result (λ done. with_parts s book x more ≡ Ok c.add_parts.new.wanted.items) (IsUnread (with_parts s book x more)))
    (sym c.in-Ok.ensures.value) c.add_parts.ensures.value)

pub returns-in-Err-clause-value : goal.returns-in-Err-clause-value
returns-in-Err-clause-value g t c =
    let s = c.args.sheet.now in
    let book = g.B.BookOf.content c.args.book.now in
    let old : Result (List Entry) Reason = Ok c.args.wanted.now.items in
    let is = c.in-Some.ensures in
    let parts = parts_more c.args.more c.args.text.now c.in-Some.first.now c.in-Some.rest.now (omega arith) is.0 is.1 is.2 in
    subst (λ ps. IsUnread (with_parts s book old ps) c.in-Err.why) (sym parts)
    (unread_stays s book (with_part old (entry_in_full s book c.in-Some.first.now)) (parts_of (c.args.more - 1) c.in-Some.rest.now) c.in-Err.why c.in-Err.ensures.value)
