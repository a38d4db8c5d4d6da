use Rattle.std.proofs.Common.{◌≡◌, ◌+◌, ◌++◌, true, length, take, sym, ◌∙◌, subst, arith}
use Rattle.std.proofs.lemmas.List.{length-take-le}
use Rattle.std.proofs.lemmas.List.Elements.{All-get_or}
use Rattle.notation.specs.Written.{IsEntry}
use Rattle.corrections.specs.inner.Scoring.{with_entry}
use Rattle.plans.specs.Plans.{names}
use Rattle.plans.specs.inner.Standing.{IsStanding}
use Rattle.plans.proofs.StandingLemmas.{next-item, standing-at}
use Rattle.plans.proofs.target.target_of.Goals as goal

pub loop-index-preserved : goal.loop-index-preserved
loop-index-preserved g c =
    let book = g.B.BookOf.content c.args.book.now in
    let xs = c.args.wanted.now in
    let i = c.loop-index.index in
    let e = c.index-wanted-index.result in
    let lt = c.loop-index-test.true in
    let is = c.index-wanted-index.is in
    let more = take i xs in
    let items = c.loop-index.items.items in
    let place = c.place_at.result in
    let named = subst (λ x. names book x ≡ true) (sym is) (All-get_or (λ x. names book x ≡ true) xs i e lt c.requires.named) in
    let r = subst IsEntry (sym is) (All-get_or IsEntry xs i e lt c.requires.in_range) in
    let at : place ≡ length book + length more = c.place_at.ensures ∙ omega (arith, c.len-len.ensures.entries, length-take-le i xs (omega arith)) in
    let next = standing-at book more items e place c.loop-index.invariant named r at in
    subst (IsStanding (book ++ take (i + 1) xs)) (sym c.in_ok-stand.ensures)
    (subst (λ ls. IsStanding (book ++ ls) (with_entry place e items)) (sym (next-item xs i e lt is)) next)
