use Rattle.std.proofs.lemmas.Grind.{common_steps}
use Rattle.std.proofs.Common.{◌+◌, ◌++◌, ◌∷◌, [], drop, take, sym, subst, refl, arith}
use Rattle.std.proofs.lemmas.List.{take_all}
use Rattle.std.proofs.lemmas.List.Elements.{All-get_or, Contains-get_or}
use Rattle.std.specs.Prelude.{Contains, Ok, Err}
use Rattle.notation.specs.Written.{IsPlain}
use Rattle.corrections.specs.declared.refusal.Refusal.TheVariants.{Later}
use Rattle.corrections.specs.CleanList.{kept}
use Rattle.corrections.specs.inner.Scoring.{history_after, IsScoring}
use Rattle.corrections.specs.Refusal.{first_refused}
use Rattle.corrections.proofs.ScoringLemmas.{refused-one, scored-append, scored-one, scored-stops}
use Rattle.plans.proofs.StandingLemmas.{next-item, parts-at}
use Rattle.plans.proofs.scoring.first_refused.Goals as goal

pub loop-index-init : goal.loop-index-init
unfolding first_refused
loop-index-init c = (refl, c.start-score.ensures)

pub take_item-requires : goal.take_item-requires
take_item-requires c = grind (arith, common_steps)

pub returns-in-Err-clause-some : goal.returns-in-Err-clause-some
returns-in-Err-clause-some c =
    let n = c.args.innings_a_side in
    let xs = c.args.items.now in
    let i = c.loop-index.index in
    let x = c.index-items-index.result in
    let t = take i xs in
    let h = history_after [] (kept t) in
    let later = Later x.place c.in-Err.why in
    let done = c.loop-index.invariant in
    let taken = c.in-Err.ensures n h done.1 in
    let these = scored-append (Err later) n [] t (x ∷ []) done.0 (refused-one c.in-Err.why n h x taken) in (
      subst (IsScoring (Err later) n []) (parts-at xs i x c.loop-index-test.true c.index-items-index.is)
          (scored-stops later n [] (t ++ x ∷ []) (drop (i + 1) xs) these),
      subst (Contains xs) (sym c.index-items-index.is) (Contains-get_or xs i x c.loop-index-test.true),
      subst (λ x. IsPlain x.item) (sym c.index-items-index.is) (All-get_or (λ x. IsPlain x.item) xs i x c.loop-index-test.true c.requires.in_range),
    )

pub loop-index-preserved : goal.loop-index-preserved
loop-index-preserved c =
    let n = c.args.innings_a_side in
    let xs = c.args.items.now in
    let i = c.loop-index.index in
    let x = c.index-items-index.result in
    let m = c.take_item.new.score in
    let t = take i xs in
    let h = history_after [] (kept t) in
    let done = c.loop-index.invariant in
    subst (IsScoring (Ok m) n []) (sym (next-item xs i x c.loop-index-test.true c.index-items-index.is))
    (scored-append (Ok m) n [] t (x ∷ []) done.0 (scored-one m n h x (c.in_default.ensures n h done.1)))

pub returns-clause-none : goal.returns-clause-none
returns-clause-none c is = grind (arith, common_steps, take_all)
