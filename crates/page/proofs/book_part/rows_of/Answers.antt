use Rattle.std.proofs.Common.{append_assoc, append-nil}
use Rattle.std.proofs.lemmas.List.{drop_all}
use Rattle.corrections.proofs.ListLemmas.{next}
use Rattle.page.proofs.book_part.rows_of.Goals as goal

pub loop-place-preserved : goal.loop-place-preserved
loop-place-preserved g c =
    let book = g.B.BookOf.content c.args.book.now in
    rw (c.in_ok-put_correction.ensures, append_assoc) (rw (next book c.loop-place.place c.entry.result c.entry.ensures.value) at c.loop-place.invariant)
