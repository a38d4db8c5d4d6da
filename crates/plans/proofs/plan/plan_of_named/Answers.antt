use Rattle.std.proofs.lemmas.Grind.{common_steps}
use Rattle.std.proofs.Common.{◌++◌, Some, sym, subst, arith}
use Rattle.std.specs.Prelude.{Contains}
use Rattle.corrections.specs.declared.refusal.Refusal.TheVariants.{Later}
use Rattle.plans.specs.inner.Standing.{IsStanding}
use Rattle.plans.proofs.DraftLemmas.{target-scored}
use Rattle.plans.proofs.plan.plan_of_named.Goals as goal

pub returns-in-Some : goal.returns-in-Some
returns-in-Some g c =
    let n = c.args.innings_a_side in
    let all = g.B.BookOf.content c.args.book.now ++ c.args.wanted.now in
    let placed = c.in-Some.placed in
    let there = subst (IsStanding all) (sym c.deref.ensures.value) c.in_ok-target.ensures in
    let found = c.in-Some.ensures.some in (
      found.2,
      target-scored n all c.deref.result.now (Some (Later placed.place c.in-Some.why)) there found.0,
      subst (λ xs. Contains xs placed) there.stands found.1,
    )

pub plan_to-requires-clause-taken : goal.plan_to-requires-clause-taken
plan_to-requires-clause-taken g c = grind (arith, common_steps, target-scored)
