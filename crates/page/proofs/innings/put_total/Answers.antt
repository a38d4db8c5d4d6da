use Rattle.std.specs.Prelude.{codes}
use Rattle.match_laws.specs.Figures.{total, wickets, overs, balls}
use Rattle.page.specs.Innings.{overs_text, score_text}
use Rattle.page.proofs.Chains.{puts_four, puts_last}
use Rattle.page.proofs.innings.put_total.Goals as goal

pub returns : goal.returns
returns c = λ n h s.
    let i = c.args.innings in
    let score = rw (c.total.ensures.value n h s, c.wickets.ensures.value n h s) at c.in_ok-put_score.ensures in
    let bowled = rw (c.overs-called.ensures.called n h s, c.overs-called.ensures.since n h s) at c.in_ok-put_overs.ensures in
    puts_four c.push_str-2.result c.args.out.now c.push_str.new.self c.put_score.new.out c.put_overs.new.out _
    (codes "<span>") (score_text c.args.cause (total h i) (wickets h i)) (overs_text (overs h i) (balls h i)) _
    c.in_ok-push_str.ensures.bytes score bowled (puts_last c.push_str-2.result c.put_overs.new.out _ (codes "</span></h2>\n") c.push_str-2.ensures.bytes)
