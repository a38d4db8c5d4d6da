use Rattle.std.proofs.Common.{drop}
use Rattle.corrections.specs.CleanList.{clean, kept}
use Rattle.archive_deliveries.proofs.Noting.{Noting}
use Rattle.archive_deliveries.proofs.notes.notes_of.Given as goal

abbrev pub invariant-loop-index : goal.invariant-loop-index
invariant-loop-index g l =
    Noting (clean (g.B.BookOf.content l.book)) (kept (drop l.index l.clean_items)) l.innings_a_side l.score l.begun l.notes.items
