use Rattle.std.proofs.Common.{ap, sym, ◌∙◌}
use Rattle.notation.specs.Written.{Token, kind_text}
use Rattle.corrections.specs.Overs.{newest_bowler}
use Rattle.shorthand.specs.declared.delivery.Point.{Point}
use Rattle.shorthand.specs.inner.Marking.{runs_text}
use Rattle.shorthand.proofs.Bowlers.{point_at-last}
use Rattle.shorthand.proofs.Marked.{marked_line}
use Rattle.shorthand.proofs.marks.marked_alone.Goals as goal

pub returns-clause-entry : goal.returns-clause-entry
returns-clause-entry g c =
    let book = g.B.BookOf.content c.args.book.now in
    let words : Token × Token = (kind_text c.in_ok-kind.kind, runs_text c.in_ok-kind.runs) in
    let is = rw c.in_ok-text.ensures at c.in_ok-kind.ensures in
    let last = ap (λ (point : Point). point.bowler) (point_at-last book) ∙ ap newest_bowler (sym c.overs_of.ensures.overs.this) in
    let ball = c.marked_ball.ensures in
    (ball.ball, λ s. marked_line s book c.args.line.now words c.in_ok-bowler.bowler c.marked_ball.result is (last ∙ sym c.in_ok-bowler.ensures) ball.ball ball.text)
