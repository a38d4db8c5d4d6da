use Rattle.std.proofs.Common.{◌≡◌, ◌++◌, ◌∷◌, []}
use Rattle.match_laws.specs.Stands.{ForEachHistory}
use Rattle.falls.specs.Falls.{falls_at}
use Rattle.json_fields.specs.Values.{up_to, values_tokens}
use Rattle.scoreboard.specs.Innings.{innings_value}
use Rattle.scoreboard.proofs.innings.put_each.Given as goal

-- the innings so far are put
abbrev pub invariant-loop-innings : goal.invariant-loop-innings
invariant-loop-innings l = ForEachHistory l.score (λ n h. l.falls ≡ falls_at h →
    l.out ≡ l.initial.out ++ values_tokens (up_to (λ i. innings_value l.sheet h i ∷ []) l.innings))
