use Rattle.std.specs.Fmt.{digits}
use Rattle.match_laws.specs.Figures.{overs, balls, bowler_balls, bowler_overs, falls, maidens, penalty_runs, total}
use Rattle.corrections.specs.CleanList.{clean, clean_items_of, history_of}
use Rattle.export.proofs.readers.worked_sums.Goals as goal

pub returns : goal.returns
unfolding digits overs balls bowler_balls bowler_overs falls maidens penalty_runs total clean clean_items_of history_of
returns c = assumption
