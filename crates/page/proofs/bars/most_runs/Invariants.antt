use Rattle.std.proofs.Common.{◌≡◌}
use Rattle.std.specs.Prelude.{slice_get}
use Rattle.page.specs.Bars.{largest, runs_in}
use Rattle.page.proofs.bars.most_runs.Given as goal

abbrev pub invariant-loop-index : goal.invariant-loop-index
invariant-loop-index l = l.most ≡ largest (λ k. runs_in l.innings (slice_get l.moments k)) l.index
