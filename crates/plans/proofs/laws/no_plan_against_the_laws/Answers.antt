use Rattle.plans.proofs.DraftLemmas.{legal-lines, wanted-legal}
use Rattle.plans.proofs.laws.no_plan_against_the_laws.Goals as goal

pub returns : goal.returns
returns c = record { legal = λ n book wanted lines legal p. legal-lines n book lines legal p.taken; none = wanted-legal }
