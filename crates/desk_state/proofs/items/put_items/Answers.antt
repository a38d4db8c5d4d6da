use Rattle.std.proofs.Common.{◌∙◌, None, get_or, sym, ap, arith}
use Rattle.corrections.specs.CleanList.{IsItemOf}
use Rattle.cards.proofs.Slots.{all_at}
use Rattle.corrections.proofs.PlayedLemmas.{stands_played}
use Rattle.desk_state.proofs.ItemLemmas.{puts_none, puts_one, puts_all, same_value, takes, within_more}
use Rattle.desk_state.proofs.items.put_items.Goals as goal

pub loop-index-init : goal.loop-index-init
loop-index-init g c = (puts_none _ _ _ _ _ c.none-before.ensures.come, c.none-before.ensures.within)

pub put_if-requires-clause-within : goal.put_if-requires-clause-within
put_if-requires-clause-within g c = within_more (omega (arith, c.loop-index-test.true, c.clean_items-items.ensures.bound)) c.loop-index.invariant.1

pub put_if-requires-clause-item : goal.put_if-requires-clause-item
put_if-requires-clause-item g c =
    let entered = IsItemOf (g.B.BookOf.content c.args.book.now) in
    (all_at entered _ _ _ c.clean_items-items.ensures.items c.placed_at-placed.ensures).item

pub put_if-requires-clause-place : goal.put_if-requires-clause-place
put_if-requires-clause-place g c =
    let entered = IsItemOf (g.B.BookOf.content c.args.book.now) in
    let place = (all_at entered _ _ _ c.clean_items-items.ensures.items c.placed_at-placed.ensures).place in
    rw (c.as_slice.ensures.value, c.in_ok-by.ensures.places) place

pub loop-index-preserved : goal.loop-index-preserved
loop-index-preserved g c =
    let book = g.B.BookOf.content c.args.book.now in
    let m = c.loop-index.invariant.0 in
    let x = c.placed_at-placed.result in
    let here = c.placed_at-placed.ensures in
    let place = (all_at (IsItemOf book) _ _ _ c.clean_items-items.ensures.items here).place in
    let by = ap (λ xs. get_or xs x.place None) c.as_slice.ensures.value ∙ c.in_ok-by.ensures.value x.place place in
    let is = same_value book m.history x _ _ _ m.come.count (ap (λ s. s.ends.striker) m.come.crease) by in
    let all = rw (← c.clean_items-items.ensures.value) at (stands_played _ book c.score-score.ensures.score.legal) in (
      puts_one m x here (rw is at c.in_ok-put_if.ensures) (c.after-before.ensures.come m.history m.come (takes m x here all)),
      c.after-before.ensures.within c.loop-index.index c.loop-index.invariant.1,
    )

pub returns : goal.returns
returns g c = rw (sym c.clean_items-items.ensures.value) (puts_all c.loop-index.invariant.0 c.loop-index-test.false)
