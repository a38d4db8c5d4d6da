use Rattle.export.proofs.info.put_outcome.Goals as goal

pub returns-in-Runs : goal.returns-in-Runs
returns-in-Runs c = rw c.in-Runs.is c.put_win.ensures

pub returns-in-Wickets : goal.returns-in-Wickets
returns-in-Wickets c = rw c.in-Wickets.is c.put_win-in-Wickets.ensures

pub returns-in-PenaltyRuns : goal.returns-in-PenaltyRuns
returns-in-PenaltyRuns c = rw c.in-PenaltyRuns.is c.put_method_win.ensures
