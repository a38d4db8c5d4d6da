use Rattle.std.proofs.Common.{arith, ◌≡◌, ◌+◌, ◌-◌, length, length-drop, drop, ap, ◌∙◌, take_all}
use Rattle.corrections.specs.Overs.{balls_of}
use Rattle.score_rows.specs.Row.{newest}
use Rattle.score_rows.proofs.Items.{newest_more}
use Rattle.score_rows.proofs.marks.newest_of.Goals as goal

pub loop-from-preserved : goal.loop-from-preserved
loop-from-preserved c =
    let l = c.loop-from in
    let some : l.from ≡ l.from - 1 + 1 = omega (arith, c.loop-from-test.true) in
    let so_far = rw some at l.invariant.kept in
    let one = newest_more c.args.over.now (l.from - 1) c.index-over-from.result (omega (arith, l.invariant.most, some)) c.index-over-from.is l.room in
    record { most = omega (arith, l.invariant.most); kept = grind (arith, so_far, one) }

pub returns-then-not-is_left : goal.returns-then-not-is_left
returns-then-not-is_left c =
    let over = c.args.over.now in
    let l = c.loop-from in
    let some : l.from ≡ l.from - 1 + 1 = omega (arith, c.loop-from-test.true) in
    let so_far = rw some at l.invariant.kept in
    let one = newest_more over (l.from - 1) c.index-over-from.result (omega (arith, l.invariant.most, some)) c.index-over-from.is l.room in
    let rest : balls_of (drop l.from over) ≡ newest c.args.room (balls_of over) = grind (arith, some, so_far, one) in
    ap balls_of (take_all (length over - l.from) (drop l.from over) (omega (arith, length-drop l.from over))) ∙ rest
