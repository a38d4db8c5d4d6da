use Rattle.std.proofs.Common.{◌∙◌, ap, rules, Some}
use Rattle.std.proofs.lemmas.Option.{slice_get-get_or}
use Rattle.page.specs.Bowling.{bowler_html}
use Rattle.page.proofs.Growing.{growing}
use Rattle.cards.proofs.Slots.{begins, goes_on, skips, ends, parts_from-lines_for}
use Rattle.page.proofs.bowling.put_bowlers.Goals as goal
use Rattle.page.proofs.bowling.put_bowlers.Goals.{in-Some+in_ok-put_bowler, in_default}

pub loop-place-init : goal.loop-place-init
loop-place-init c = λ n h s. begins growing

pub loop-place-preserved : goal.loop-place-preserved
loop-place-preserved c =
    let m = c.loop-place.invariant in
    let here = slice_get-get_or c.bowling_order-order.result c.loop-place.place-index c.place-item.result (search rules) in
    elim c.match-place.branch [
      | in-Some+in_ok-put_bowler w ↦ rw w.out-is (
          λ n h s. goes_on growing (m n h s) (here ∙ ap Some w.in-Some.is) (w.in_ok-put_bowler.ensures n h s))
      | in_default w ↦ rw w.out-is (λ n h s. skips growing (m n h s) (here ∙ ap Some w.in_default.is))
    ]

pub returns : goal.returns
returns c = λ n h s.
    let order = c.bowling_order-order in
    rw (← parts_from-lines_for (bowler_html c.args.sheet.now h c.args.innings) 0 _)
    (ends growing 11 _ (c.loop-place.invariant n h s) c.loop-place-test.false (order.ensures.filled n h s) (order.ensures.all n h s))
