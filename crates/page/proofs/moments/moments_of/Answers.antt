use Rattle.std.proofs.Common.{◌∷◌, ap, sym, arith, ◌∙◌}
use Rattle.std.proofs.lemmas.List.{drop_all}
use Rattle.corrections.specs.CleanList.{IsItemOf, clean}
use Rattle.corrections.proofs.LegalLemmas.{scored_legal}
use Rattle.cards.proofs.Slots.{all_at}
use Rattle.cards.proofs.Pages.{kept_later, kept_next}
use Rattle.page.specs.Moments.{behind}
use Rattle.page.specs.declared.moments.OverSoFar.{OverSoFar}
use Rattle.page.proofs.Momenting.{tells_none, tells_one, tells_all, taken_one}
use Rattle.page.proofs.moments.moments_of.Goals as goal
use Rattle.page.proofs.moments.moments_of.Goals.{then-not-is_void+in_ok-push, else-not-is_void}

pub loop-index-init : goal.loop-index-init
unfolding clean
loop-index-init g c = (
  rw (c.new-moments.ensures.items, c.clean_items-clean_items.ensures.value)
      (tells_none (scored_legal _ _ c.requires.legal) c.start-score.ensures c.no_over-over.ensures),
  rw (ap (λ (over : OverSoFar). over.runs) c.no_over-over.ensures) (omega arith),
  rw (ap (λ (over : OverSoFar). over.down) c.no_over-over.ensures) (omega arith),
)

pub take-requires : goal.take-requires
take-requires g c =
    let entered = IsItemOf (g.B.BookOf.content c.args.book.now) in
    (all_at entered _ _ _ c.clean_items-clean_items.ensures.items c.placed_at-placed.ensures).item

pub loop-index-preserved : goal.loop-index-preserved
loop-index-preserved g c =
    let all = c.clean_items-clean_items.result.now in
    elim c.if-not-is_void.branch [
      | then-not-is_void+in_ok-push w ↦
          let next = kept_next all c.loop-index.index c.placed_at-placed.result c.placed_at-placed.ensures (sym w.if-not-is_void.ensures) in
          let m = rw next at c.loop-index.invariant.0 in
          let step = w.take.ensures.answer _ m.history m.stands in
          let there = c.placed_at-placed.result.item ∷ m.history in
          let first = w.before-told.ensures _ m.history m.stands m.over_there in
          let told = w.behind.ensures _ there (taken_one w.take.result m step) ∙ ap (λ b. behind b there) first in
          let over = w.over_after-over.ensures in
          rw (w.score-is, w.over-is, w.moments-is) (
            tells_one w.take.result m step told (over.value m.history m.over_there) w.in_ok-push.ensures.items,
            omega (arith, over.runs, c.loop-index.invariant.1),
            omega (arith, over.down, c.loop-index.invariant.2),
          )
      | else-not-is_void w ↦
          let later = kept_later all c.loop-index.index c.placed_at-placed.result c.placed_at-placed.ensures (sym w.if-not-is_void.ensures) in
          rw (w.score-is, w.over-is, w.moments-is) (
            rw later at c.loop-index.invariant.0,
            omega (arith, c.loop-index.invariant.1),
            omega (arith, c.loop-index.invariant.2),
          )
    ]

pub returns : goal.returns
returns g c =
    let m = rw (drop_all _ _ c.loop-index-test.false) at c.loop-index.invariant.0 in
    let first = c.before-end.ensures _ m.history m.stands m.over_there in
    tells_all m (c.behind-2.ensures _ m.history m.stands ∙ ap (λ b. behind b m.history) first) c.in_ok-push-2.ensures.items
