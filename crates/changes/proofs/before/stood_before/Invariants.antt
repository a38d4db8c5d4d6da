use Rattle.std.proofs.Common.{◌≡◌, take}
use Rattle.std.specs.Prelude.{slice_get}
use Rattle.notation.specs.Written.{IsPlain}
use Rattle.corrections.specs.CleanList.{fixed}
use Rattle.changes.specs.Before.{entered}
use Rattle.changes.proofs.before.stood_before.Given as goal

abbrev pub invariant-loop-at : goal.invariant-loop-at
invariant-loop-at g l =
    (l.item ≡ fixed (take l.at (g.B.BookOf.content l.book)) l.place (entered (slice_get (g.B.BookOf.content l.book) l.place)))
    × IsPlain l.item
