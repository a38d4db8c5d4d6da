use Rattle.std.specs.Prelude.{codes}
use Rattle.page.specs.Innings.{batting_part, heading_html}
use Rattle.page.proofs.Chains.{puts_four}
use Rattle.page.proofs.innings.put_innings.Goals as goal

pub returns : goal.returns
returns c = λ n h s f e.
    let sheet = c.args.sheet.now in
    let i = c.args.innings in
    let heading = rw (← e) at (c.in_ok-put_heading.ensures n h s) in
    puts_four c.put_bowling_part.result c.args.out.now c.put_heading.new.out c.push_str.new.self c.put_batting_part.new.out _
    (heading_html sheet n h i c.args.moments.now) (codes "<div class='both'><div>\n") (batting_part sheet n h i) _
    heading c.in_ok-push_str.ensures.bytes (c.in_ok-put_batting_part.ensures n h s f) (c.put_bowling_part.ensures n h s)
