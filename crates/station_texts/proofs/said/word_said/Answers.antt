use Rattle.std.proofs.Common.{Some, ap, ◌∙◌}
use Rattle.station_texts.proofs.said.word_said.Goals as goal

pub returns-in-Plan : goal.returns-in-Plan
returns-in-Plan g c = λ votes differs is_cast.
    (c.requires ∙ ap Some c.in-Plan.is, rw c.behind_plan.ensures at c.plan_asked.ensures)
