use Rattle.std.proofs.Common.{rules}
use Rattle.match_laws.specs.History.{begun_by, entries}
use Rattle.match_laws.specs.Figures.{penalty_runs, pending_runs, total, wickets, has_come, overs, balls}
use Rattle.match_laws.specs.Result.{outcome, side_total, is_decided}
use Rattle.match_laws.specs.Refusals.{refusal}
use Rattle.corrections.specs.CleanList.{clean_items_of}
use Rattle.desk_state.proofs.worked.worked_states.Goals as goal

pub returns : goal.returns
unfolding begun_by entries penalty_runs pending_runs total wickets has_come overs balls outcome side_total is_decided refusal clean_items_of
returns c = search rules
