use Rattle.std.proofs.Common.{◌≡◌, ◌+◌}
use Rattle.match_laws.specs.Stands.{ForEachHistory}
use Rattle.json_fields.specs.Values.{up_to}
use Rattle.page.specs.Idle.{idle_at}
use Rattle.page.proofs.idle.idle_of.Given as goal

abbrev pub invariant-loop-index : goal.invariant-loop-index
invariant-loop-index l = ForEachHistory l.score (λ n h. l.players.items ≡ up_to (λ k. idle_at h l.innings (k + 1)) l.index)
