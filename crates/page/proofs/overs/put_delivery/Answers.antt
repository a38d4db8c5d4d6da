use Rattle.std.specs.Prelude.{codes}
use Rattle.cards.specs.Marks.{dead_mark}
use Rattle.page.specs.Overs.{ball_front, mark_html}
use Rattle.page.proofs.Chains.{puts_four, puts_last}
use Rattle.page.proofs.overs.put_delivery.Goals as goal

pub returns : goal.returns
returns c =
    let ball = c.args.ball.now in
    let front = rw c.ball_front.ensures at c.in_ok-push_str.ensures.bytes in
    let dead = rw c.dead_mark.ensures at c.in_ok-push_str-2.ensures.bytes in
    puts_four c.push_str-3.result c.args.out.now c.push_str.new.self c.put_mark.new.out c.push_str-2.new.self _
    (ball_front ball) (mark_html ball) (dead_mark ball.dead) _
    front c.in_ok-put_mark.ensures dead (puts_last c.push_str-3.result c.push_str-2.new.self _ (codes "</li>") c.push_str-3.ensures.bytes)
