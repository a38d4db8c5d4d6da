use Rattle.std.specs.Prelude.{codes}
use Rattle.match_laws.specs.Parts.{extras_of}
use Rattle.page.specs.Batting.{extras_row, total_row}
use Rattle.page.proofs.Chains.{puts_four, puts_last}
use Rattle.page.proofs.batting.put_foot.Goals as goal

pub returns : goal.returns
returns c = λ n h s.
    let extras = rw (c.extras.ensures n h s) at c.in_ok-put_extras.ensures in
    let i = c.args.innings in
    puts_four c.push_str-2.result c.args.out.now c.push_str.new.self c.put_extras.new.out c.put_total.new.out _
    (codes "</tbody><tfoot>\n") (extras_row (extras_of h i)) (total_row h i) _
    c.in_ok-push_str.ensures.bytes extras (c.in_ok-put_total.ensures n h s) (puts_last c.push_str-2.result c.put_total.new.out _ (codes "</tfoot></table>\n") c.push_str-2.ensures.bytes)
