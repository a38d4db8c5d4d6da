use Rattle.std.proofs.Common.{◌≡◌, take}
use Rattle.streams.specs.Watched.{stream_of, failures}
use Rattle.cards.proofs.Pages.{CopiedFrom}
use Rattle.book_rows.specs.Listing.{entry_line}
use Rattle.book_rows.proofs.listing.print_between.Given as goal

abbrev pub invariant-loop-place : goal.invariant-loop-place
invariant-loop-place g l =
    CopiedFrom (entry_line (g.B.BookOf.content l.book)) (take l.stop (g.B.BookOf.content l.book)) l.first l.place
    (g.W.Sink.contents (stream_of l.initial.out)) (g.W.Sink.contents (stream_of l.out))
    × (failures l.out ≡ failures l.initial.out)
