use Rattle.std.proofs.Common.{ap, map, sym, ◌∙◌, subst}
use Rattle.plans.specs.Plans.{IsPlan}
use Rattle.plans.proofs.DraftLemmas.{plan_of-draft}
use Rattle.plans.proofs.plan.lines_to.Goals as goal

pub returns-then-is_same : goal.returns-then-is_same
returns-then-is_same c = λ n book wanted d t.
    let d0 = c.args.draft in
    let same = ap (map (λ s. s.item)) (sym c.deref.ensures.value) ∙ c.is_same.ensures c.if-is_same.true in
    subst (IsPlan n book wanted) (sym (ap (λ v. v.items) c.into_lines.ensures))
    (plan_of-draft n book wanted d0.lines.items d0.items.items c.args.target.now d t same)
