use Rattle.std.proofs.Common.{◌≡◌, ◌++◌, take}
use Rattle.std.specs.Prelude.{flat_map, slice_get}
use Rattle.json_fields.specs.Values.{values_tokens}
use Rattle.export.specs.Entries.{fix_at}
use Rattle.export.proofs.entries.put_fixes.Given as goal

-- the places of the corrections so far are put
abbrev pub invariant-loop-at : goal.invariant-loop-at
invariant-loop-at g l = l.out ≡ l.initial.out ++ values_tokens (flat_map (λ k. fix_at l.place k (slice_get (g.B.BookOf.content l.book) k)) (take l.at-index l.corrections))
