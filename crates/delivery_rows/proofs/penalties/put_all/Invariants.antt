use Rattle.std.proofs.Common.{◌≡◌, ◌++◌}
use Rattle.match_laws.specs.Stands.{ForEachHistory}
use Rattle.json_fields.specs.Values.{up_to}
use Rattle.archive_deliveries.specs.Notes.{begun_of}
use Rattle.delivery_rows.specs.Cells.{rows_text}
use Rattle.delivery_rows.specs.Penalties.{innings_penalties}
use Rattle.delivery_rows.proofs.penalties.put_all.Given as goal

-- the rows of the innings so far are written
abbrev pub invariant-loop-index : goal.invariant-loop-index
invariant-loop-index l = ForEachHistory l.score (λ n h. l.begun ≡ begun_of h →
    l.out.items ≡ l.initial.out.items ++ rows_text (up_to (innings_penalties l.sheet l.day h l.notes) l.index))
