use Rattle.std.proofs.Common.{ap, sym, ◌∙◌, ◌∷◌, [], take, arith}
use Rattle.std.specs.Prelude.{slice_get}
use Rattle.corrections.specs.CleanList.{fixed}
use Rattle.changes.specs.Before.{entered}
use Rattle.changes.proofs.Undone.{fixed-next, slice_get-take}
use Rattle.changes.proofs.before.stood_before.Goals as goal

pub loop-at-preserved : goal.loop-at-preserved
loop-at-preserved g c =
    let book = g.B.BookOf.content c.args.book.now in
    let e = c.entry-in-loop-at.result in
    let next = fixed-next book c.loop-at.at e c.args.place (entered (slice_get book c.args.place)) c.entry-in-loop-at.ensures.value in
    (c.fixed_by-item.ensures.value ∙ (ap (fixed (e ∷ []) c.args.place) c.loop-at.invariant.0 ∙ sym next), c.fixed_by-item.ensures.in_range)

pub returns-clause-value : goal.returns-clause-value
returns-clause-value g c =
    let book = g.B.BookOf.content c.args.book.now in
    c.loop-at.invariant.0
    ∙ (ap (λ k. fixed (take k book) c.args.place (entered (slice_get book c.args.place))) (omega (arith, c.loop-at.auto.at-end, c.loop-at-test.false))
    ∙ ap (λ o. fixed (take c.args.end book) c.args.place (entered o)) (sym (slice_get-take c.args.end book c.args.place c.requires.place)))
