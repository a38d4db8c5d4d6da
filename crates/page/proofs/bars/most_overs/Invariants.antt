use Rattle.std.proofs.Common.{◌≡◌}
use Rattle.match_laws.specs.Stands.{ForEachHistory}
use Rattle.match_laws.specs.Figures.{overs}
use Rattle.page.specs.Bars.{largest}
use Rattle.page.proofs.bars.most_overs.Given as goal

abbrev pub invariant-loop-innings : goal.invariant-loop-innings
invariant-loop-innings l = ForEachHistory l.score (λ n h. l.most ≡ largest (overs h) l.innings)
