use Rattle.std.proofs.Common.{rules}
use Rattle.std.specs.Fmt.{digits}
use Rattle.match_laws.specs.History.{begun_by}
use Rattle.match_laws.specs.Figures.{batter_runs, bowler_balls, bowler_overs, bowler_runs, bowler_wickets, fate, faced, maidens, penalty_runs, total, wickets, overs, balls, byes, legs, wides, noballs, fours, sixes, bowler_wides, bowler_noballs}
use Rattle.match_laws.specs.Result.{outcome, side_total}
use Rattle.corrections.specs.CleanList.{clean, clean_items_of, history_of}
use Rattle.changes.specs.Changes.{all_changes, changes}
use Rattle.changes.specs.Text.{changes_text}
use Rattle.changes.proofs.worked.worked_changes.Goals as goal

pub returns : goal.returns
unfolding digits begun_by batter_runs bowler_balls bowler_overs bowler_runs bowler_wickets fate faced maidens penalty_runs total wickets overs balls
    byes legs wides noballs fours sixes bowler_wides bowler_noballs outcome side_total clean clean_items_of history_of all_changes changes changes_text
returns c = search rules
