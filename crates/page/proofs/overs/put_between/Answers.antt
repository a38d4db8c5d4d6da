use Rattle.std.specs.Prelude.{codes}
use Rattle.page.proofs.Chains.{puts_four}
use Rattle.page.proofs.overs.put_between.Goals as goal

pub returns : goal.returns
returns c =
    puts_four c.put_score.result c.args.out.now c.push_str.new.self c.push_str-2.new.self c.push_str-3.new.self _
    (codes "<tr><th scope='row'></th><td class='words'><span class='note'>") c.args.text.now (codes "</span></td><td>") _
    c.in_ok-push_str.ensures.bytes c.in_ok-push_str-2.ensures.bytes c.in_ok-push_str-3.ensures.bytes c.put_score.ensures
