use Rattle.std.proofs.Common.{◌∙◌, List, ap, length, sym}
use Rattle.std.specs.Prelude.{◌==◌}
use Rattle.desk_state.specs.declared.deliveries.Delivery.{Delivery}
use Rattle.desk_state.proofs.NotedLemmas.{last_shown, this_shown}
use Rattle.desk_state.proofs.deliveries.over_shown.Goals as goal

pub returns-then-is_between : goal.returns-then-is_between
returns-then-is_between g c =
    let noted = c.deliveries.view_is ∙ c.in_ok-deliveries.ensures in
    let none = sym (ap (λ (xs : List Delivery). length xs == 0) c.as_slice.ensures.value) ∙ sym c.is_empty-is_between.ensures ∙ c.if-is_between.true in
    last_shown (g.B.BookOf.content c.args.book.now) _ _ c.clean_items.ensures.value noted none

pub returns-else-is_between : goal.returns-else-is_between
returns-else-is_between g c =
    let noted = c.deliveries.view_is ∙ c.in_ok-deliveries.ensures in
    let some = sym (ap (λ (xs : List Delivery). length xs == 0) c.as_slice.ensures.value) ∙ sym c.is_empty-is_between.ensures ∙ c.if-is_between.false in
    this_shown (g.B.BookOf.content c.args.book.now) _ _ c.clean_items.ensures.value noted some
