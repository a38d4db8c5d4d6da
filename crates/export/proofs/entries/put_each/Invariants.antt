use Rattle.std.proofs.Common.{◌≡◌, ◌++◌}
use Rattle.std.specs.Prelude.{slice_get}
use Rattle.json_fields.specs.Values.{up_to, values_tokens}
use Rattle.export.specs.Entries.{entry_at}
use Rattle.export.proofs.entries.put_each.Given as goal

-- the entries so far are put
abbrev pub invariant-loop-place : goal.invariant-loop-place
invariant-loop-place g l = l.out ≡ l.initial.out ++ values_tokens (up_to (λ k. entry_at (g.B.BookOf.content l.book) k (slice_get (g.B.BookOf.content l.book) k)) l.place)
