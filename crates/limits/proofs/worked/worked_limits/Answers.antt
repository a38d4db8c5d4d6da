use Rattle.std.proofs.Common.{rules}
use Rattle.std.specs.Fmt.{digits}
use Rattle.match_laws.specs.History.{begun_by}
use Rattle.match_laws.specs.Figures.{penalty_runs, total, overs, balls}
use Rattle.match_laws.specs.Result.{target, side_total}
use Rattle.limits.proofs.worked.worked_limits.Goals as goal

pub returns : goal.returns
unfolding digits begun_by penalty_runs total overs balls side_total target
returns c = search rules
