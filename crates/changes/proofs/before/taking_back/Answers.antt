use Rattle.std.proofs.Common.{◌-◌, Some, ap, sym, ◌∙◌, subst, take}
use Rattle.std.specs.Prelude.{slice_get}
use Rattle.notation.specs.declared.entry.Plain.{Plain}
use Rattle.notation.specs.declared.entry.Entry.TheVariants.{Fix}
use Rattle.changes.specs.Before.{TakesBack, stands_at}
use Rattle.changes.proofs.Undone.{fix_takes, late_takes}
use Rattle.changes.proofs.before.taking_back.Goals as goal

pub returns-in-Fix-clause-value : goal.returns-in-Fix-clause-value
returns-in-Fix-clause-value g c =
    let n = g.B.BookOf.innings_a_side c.args.book.now in
    let book = g.B.BookOf.content c.args.book.now in
    let len = c.len-len.ensures.entries in
    let at = ap (λ k. slice_get book (k - 1)) (sym len) ∙ (c.entry.ensures.value ∙ ap Some c.in-Fix.is) in
    let value = c.stood_before.ensures.value ∙ ap (λ k. stands_at (take (k - 1) book) c.in-Fix.place) len in
    subst (λ x. TakesBack n book (Fix c.in-Fix.place x)) (sym value) (fix_takes n book c.in-Fix.place c.in-Fix.field-1 c.score-score.ensures.legal at)

pub returns-in-Late-clause-value : goal.returns-in-Late-clause-value
returns-in-Late-clause-value g c =
    let n = g.B.BookOf.innings_a_side c.args.book.now in
    let book = g.B.BookOf.content c.args.book.now in
    let len = c.len-len.ensures.entries in
    let at = ap (λ k. slice_get book (k - 1)) (sym len) ∙ (c.entry.ensures.value ∙ ap Some c.in-Late.is) in
    subst (λ k. TakesBack n book (Fix (k - 1) Plain.Void)) (sym len) (late_takes n book c.in-Late.field-0 c.in-Late.field-1 c.score-score.ensures.legal at)
