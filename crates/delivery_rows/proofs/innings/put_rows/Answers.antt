use Rattle.std.proofs.Common.{sym, ◌∙◌}
use Rattle.std.proofs.lemmas.List.{drop_all}
use Rattle.corrections.proofs.ListLemmas.{next}
use Rattle.delivery_rows.proofs.Putting.{no_rows, rows_due}
use Rattle.delivery_rows.proofs.innings.put_rows.Goals as goal
use Rattle.delivery_rows.proofs.innings.put_rows.Goals.{then-is_ball+in_ok-standing, else-is_ball}

pub loop-index-preserved : goal.loop-index-preserved
loop-index-preserved c =
    let here = next c.args.items.now c.loop-index.index c.noted_at-noted.result c.noted_at-noted.ensures in
    elim c.if-is_ball.branch [
      | then-is_ball+in_ok-standing w ↦
          let ball = sym c.is_ball.ensures ∙ w.if-is_ball.true in
          let due = rw (here, ball, ← w.in_ok-standing.ensures.next) at c.loop-index.invariant in
          rw (w.out-is, w.early-is, w.standing-is) (rows_due _ _ _ _ _ w.in_ok-standing.ensures.rows due)
      | else-is_ball w ↦
          let other = sym c.is_ball.ensures ∙ w.if-is_ball.false in
          rw (w.out-is, w.early-is, w.standing-is) (rw (here, other) at c.loop-index.invariant)
    ]

pub returns : goal.returns
returns c = no_rows _ ∙ (rw (drop_all _ _ c.loop-index-test.false) at c.loop-index.invariant)
