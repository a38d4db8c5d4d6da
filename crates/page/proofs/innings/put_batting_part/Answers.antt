use Rattle.page.specs.Batting.{batting_html}
use Rattle.page.specs.Idle.{idle_html}
use Rattle.page.specs.Innings.{target_html}
use Rattle.page.proofs.Chains.{puts_four}
use Rattle.page.proofs.innings.put_batting_part.Goals as goal

pub returns : goal.returns
returns c = λ n h s f.
    let sheet = c.args.sheet.now in
    let i = c.args.innings in
    puts_four c.put_falls.result c.args.out.now c.put_target.new.out c.put_batting.new.out c.put_idle.new.out _
    (target_html sheet h i) (batting_html sheet h i) (idle_html sheet n h i) _
    (c.in_ok-put_target.ensures n h s) (c.in_ok-put_batting.ensures n h s) (c.in_ok-put_idle.ensures n h s) (c.put_falls.ensures n h s f)
