use Rattle.std.proofs.Common.{sym}
use Rattle.std.proofs.lemmas.List.{drop_all}
use Rattle.corrections.specs.CleanList.{IsItemOf, clean}
use Rattle.corrections.proofs.LegalLemmas.{scored_legal}
use Rattle.cards.proofs.Slots.{all_at}
use Rattle.cards.proofs.Pages.{kept_later, kept_next}
use Rattle.archive_deliveries.proofs.Noting.{notes_none, notes_one, notes_all, begun_all}
use Rattle.archive_deliveries.proofs.notes.notes_of.Goals as goal
use Rattle.archive_deliveries.proofs.notes.notes_of.Goals.{then-not-is_void+in_ok-push, else-not-is_void}

pub loop-index-init : goal.loop-index-init
unfolding clean
loop-index-init g c =
    rw (c.new-notes.ensures.items, c.clean_items-clean_items.ensures.value)
    (notes_none (scored_legal _ _ c.requires.legal) c.start-score.ensures c.none-begun.ensures)

pub take-requires : goal.take-requires
take-requires g c =
    let entered = IsItemOf (g.B.BookOf.content c.args.book.now) in
    (all_at entered _ _ _ c.clean_items-clean_items.ensures.items c.placed_at-placed.ensures).item

pub loop-index-preserved : goal.loop-index-preserved
loop-index-preserved g c =
    let all = c.clean_items-clean_items.result.now in
    elim c.if-not-is_void.branch [
      | then-not-is_void+in_ok-push w ↦
          let next = kept_next all c.loop-index.index c.placed_at-placed.result c.placed_at-placed.ensures (sym w.if-not-is_void.ensures) in
          let m = rw next at c.loop-index.invariant in
          rw (w.score-is, w.begun-is, w.notes-is)
          (notes_one w.take.result m (w.note.ensures _ m.history m.stands m.counted) (w.begun_after-begun.ensures _ m.history m.stands m.counted)
          w.in_ok-push.ensures.items (w.take.ensures.answer _ m.history m.stands))
      | else-not-is_void w ↦
          let later = kept_later all c.loop-index.index c.placed_at-placed.result c.placed_at-placed.ensures (sym w.if-not-is_void.ensures) in
          rw (w.score-is, w.begun-is, w.notes-is) (rw later at c.loop-index.invariant)
    ]

pub returns-clause-notes : goal.returns-clause-notes
returns-clause-notes g c = notes_all _ (rw (drop_all _ _ c.loop-index-test.false) at c.loop-index.invariant)

pub returns-clause-begun : goal.returns-clause-begun
returns-clause-begun g c = begun_all _ (rw (drop_all _ _ c.loop-index-test.false) at c.loop-index.invariant)
