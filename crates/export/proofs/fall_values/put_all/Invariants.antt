use Rattle.std.proofs.Common.{◌≡◌, ◌++◌}
use Rattle.match_laws.specs.Stands.{ForEachHistory}
use Rattle.falls.specs.Falls.{falls_at}
use Rattle.json_fields.specs.Values.{up_to, values_tokens}
use Rattle.export.specs.Falls.{falls_of}
use Rattle.export.proofs.fall_values.put_all.Given as goal

-- the falls of the innings so far are put
abbrev pub invariant-loop-innings : goal.invariant-loop-innings
invariant-loop-innings l = ForEachHistory l.score (λ n h. l.falls ≡ falls_at h → l.out ≡ l.initial.out ++ values_tokens (up_to (falls_of l.sheet h) l.innings))
