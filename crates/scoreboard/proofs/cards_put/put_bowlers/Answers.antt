use Rattle.std.proofs.Common.{◌∙◌, ap, rules, Some}
use Rattle.std.proofs.lemmas.Option.{slice_get-get_or}
use Rattle.cards.proofs.Slots.{begins, goes_on, skips, ends}
use Rattle.scoreboard.specs.Innings.{bowler_of}
use Rattle.scoreboard.proofs.Rows.{putting, parts_from-map}
use Rattle.scoreboard.proofs.cards_put.put_bowlers.Goals as goal
use Rattle.scoreboard.proofs.cards_put.put_bowlers.Goals.{in-Some+in_ok-put_bowler_of, in_default}

pub loop-place-init : goal.loop-place-init
loop-place-init c = λ n h s. begins putting

pub loop-place-preserved : goal.loop-place-preserved
loop-place-preserved c =
    let m = c.loop-place.invariant in
    let here = slice_get-get_or c.bowling_order-order.result c.loop-place.place-index c.place-item.result (search rules) in
    elim c.match-place.branch [
      | in-Some+in_ok-put_bowler_of w ↦ rw w.out-is (
          λ n h s. goes_on putting (m n h s) (here ∙ ap Some w.in-Some.is) (w.in_ok-put_bowler_of.ensures n h s))
      | in_default w ↦ rw w.out-is (λ n h s. skips putting (m n h s) (here ∙ ap Some w.in_default.is))
    ]

pub returns : goal.returns
returns c = λ n h s.
    let order = c.bowling_order-order in
    rw (← parts_from-map (bowler_of c.args.innings.sheet.now h c.args.innings.index) 0 _)
    (ends putting 11 _ (c.loop-place.invariant n h s) c.loop-place-test.false (order.ensures.filled n h s) (order.ensures.all n h s))
