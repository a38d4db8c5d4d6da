use Rattle.std.proofs.Common.{◌≡◌}
use Rattle.export.specs.inner.Corrections.{fix_places}
use Rattle.export.proofs.entries.corrections_of.Given as goal

-- the places of the corrections so far are collected
abbrev pub invariant-loop-at : goal.invariant-loop-at
invariant-loop-at g l = l.places.items ≡ fix_places (g.B.BookOf.content l.book) l.at
