use Rattle.std.specs.Prelude.{codes}
use Rattle.cards.specs.Bowling.{fielding}
use Rattle.page.specs.Bowling.{bowlers_html, table_front}
use Rattle.page.proofs.Chains.{puts_three, puts_last}
use Rattle.page.proofs.bowling.put_bowling.Goals as goal

pub returns : goal.returns
returns c = λ n h s.
    let sheet = c.args.sheet.now in
    let i = c.args.innings in
    let front = rw (c.opponent.ensures, c.side.ensures n h s) at c.in_ok-put_front.ensures in
    puts_three c.push_str.result c.args.out.now c.put_front.new.out c.put_bowlers.new.out _ (table_front sheet (fielding h i)) (bowlers_html sheet h i) _
    front (c.in_ok-put_bowlers.ensures n h s) (puts_last c.push_str.result c.put_bowlers.new.out _ (codes "</tbody></table>\n") c.push_str.ensures.bytes)
