use Rattle.std.proofs.Common.{◌∙◌, ap}
use Rattle.live.specs.Ends.{Course, end_told}
use Rattle.live.proofs.DeskRunLemmas.{blames, told_last}
use Rattle.live.proofs.desk_life.run_desk.Goals as goal

pub returns-clause-runs : goal.returns-clause-runs
returns-clause-runs g c =
    let answer = c.end_told.ensures ∙ ap (λ (flushed : Course). end_told c.take_turns-end.result flushed) c.told.ensures in
    told_last c.flush.result c.take_turns-end.result c.end_told.result answer c.take_turns-end.ensures.runs c.flush.ensures.bytes

pub returns-clause-blame : goal.returns-clause-blame
returns-clause-blame g c = blames c.end_told.result (returns-clause-runs g c)
