use Rattle.std.proofs.Common.{◌≡◌, ◌++◌, ◌∷◌, []}
use Rattle.match_laws.specs.Stands.{ForEachHistory}
use Rattle.json_fields.specs.Values.{up_to, values_tokens}
use Rattle.export.specs.Innings.{innings_of}
use Rattle.archive_deliveries.specs.Notes.{begun_of}
use Rattle.export.proofs.innings.put_each.Given as goal

-- the innings so far are put
abbrev pub invariant-loop-innings : goal.invariant-loop-innings
invariant-loop-innings l = ForEachHistory l.score (λ n h. l.begun ≡ begun_of h →
    l.out ≡ l.initial.out ++ values_tokens (up_to (λ i. innings_of l.sheet h l.notes i ∷ []) l.innings))
