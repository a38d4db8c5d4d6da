use Rattle.std.proofs.Common.{◌≡◌, ◌+◌, ◌∙◌, ap, arith, rules, sym, Some}
use Rattle.std.proofs.lemmas.Option.{slice_get-get_or}
use Rattle.cards.proofs.Slots.{begins, goes_on, skips, ends, parts_from-lines}
use Rattle.page.specs.Falls.{fall_html}
use Rattle.page.proofs.Growing.{growing}
use Rattle.page.proofs.fall_list.put_each_fall.Goals as goal
use Rattle.page.proofs.fall_list.put_each_fall.Goals.{in-Some+in_ok-put_fall, in_default}

pub loop-index-init : goal.loop-index-init
loop-index-init c = begins growing

pub loop-index-preserved : goal.loop-index-preserved
loop-index-preserved c =
    let m = c.loop-index.invariant in
    let same : c.loop-index.index + 0 ≡ c.loop-index.index = omega arith in
    let here = slice_get-get_or c.falls-falls.result c.loop-index.index c.place-item.result (search rules) in
    elim c.match-place.branch [
      | in-Some+in_ok-put_fall w ↦ rw w.out-is (goes_on growing m (here ∙ ap Some w.in-Some.is) (rw same w.in_ok-put_fall.ensures))
      | in_default w ↦ rw w.out-is (skips growing m (here ∙ ap Some w.in_default.is))
    ]

pub returns : goal.returns
returns c = λ n h s there.
    let falls = c.falls-falls in
    rw (← c.side-side.ensures n h s, ← there, ← parts_from-lines (fall_html c.args.sheet.now c.side-side.result c.args.there.now) 0 _)
    (ends growing 10 _ c.loop-index.invariant c.loop-index-test.false (falls.ensures.filled n h s) (falls.ensures.all n h s))
