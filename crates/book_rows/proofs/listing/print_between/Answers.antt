use Rattle.std.proofs.Common.{◌∙◌}
use Rattle.cards.proofs.Pages.{copies_next}
use Rattle.book_rows.proofs.Listed.{taken}
use Rattle.book_rows.proofs.listing.print_between.Goals as goal

pub loop-place-preserved : goal.loop-place-preserved
loop-place-preserved g c = (
  copies_next _ _ _ c.loop-place.place _ _ _ _ c.loop-place.invariant.0
      (taken (g.B.BookOf.content c.args.book.now) c.args.stop c.loop-place.place _ c.loop-place-test.true c.entry.ensures.value)
      c.in_ok-print_line.ensures.text,
  c.in_ok-print_line.ensures.failed.1 ∙ c.loop-place.invariant.1,
)
