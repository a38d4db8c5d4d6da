use Rattle.std.specs.Prelude.{codes}
use Rattle.page.proofs.Chains.{puts_three, puts_last}
use Rattle.page.proofs.overs.put_among.Goals as goal

pub returns : goal.returns
returns c =
    puts_three c.push_str-3.result c.args.out.now c.push_str.new.self c.push_str-2.new.self _ (codes "<li class='aside'>") c.args.text.now _
    c.in_ok-push_str.ensures.bytes c.in_ok-push_str-2.ensures.bytes (puts_last c.push_str-3.result c.push_str-2.new.self _ (codes "</li>") c.push_str-3.ensures.bytes)
