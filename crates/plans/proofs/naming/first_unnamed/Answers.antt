use Rattle.std.proofs.Common.{◌≡◌, true, arith, subst, sym, take}
use Rattle.std.proofs.lemmas.List.{take_all}
use Rattle.std.proofs.lemmas.List.Elements.{All-push}
use Rattle.std.specs.Prelude.{All}
use Rattle.plans.specs.Plans.{names}
use Rattle.plans.proofs.StandingLemmas.{next-item}
use Rattle.plans.proofs.naming.first_unnamed.Goals as goal

pub loop-index-preserved : goal.loop-index-preserved
loop-index-preserved g c =
    let book = g.B.BookOf.content c.args.book.now in
    let xs = c.args.wanted.now in
    let i = c.loop-index.index in
    let e = c.index-wanted-index.result in
    let named : names book e ≡ true = grind (arith, c.names.ensures, c.if-not-names.false) in
    subst (All (λ x. names book x ≡ true)) (sym (next-item xs i e c.loop-index-test.true c.index-wanted-index.is))
    (All-push (λ x. names book x ≡ true) (take i xs) e c.loop-index.invariant named)

pub returns-clause-none : goal.returns-clause-none
returns-clause-none g c none =
    let book = g.B.BookOf.content c.args.book.now in
    subst (All (λ x. names book x ≡ true)) (take_all c.loop-index.index c.args.wanted.now c.loop-index-test.false) c.loop-index.invariant
