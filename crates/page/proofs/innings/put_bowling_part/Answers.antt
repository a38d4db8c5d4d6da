use Rattle.std.specs.Prelude.{codes}
use Rattle.page.specs.Bowling.{bowling_html}
use Rattle.page.specs.Stands.{partnerships_html}
use Rattle.page.proofs.Chains.{puts_four, puts_last}
use Rattle.page.proofs.innings.put_bowling_part.Goals as goal

pub returns : goal.returns
returns c = λ n h s.
    let i = c.args.innings in
    puts_four c.push_str-2.result c.args.out.now c.push_str.new.self c.put_bowling.new.out c.put_partnerships.new.out _
    (codes "</div><div>\n") (bowling_html c.args.sheet.now h i) (partnerships_html i c.args.moments.now) _
    c.in_ok-push_str.ensures.bytes (c.in_ok-put_bowling.ensures n h s) c.in_ok-put_partnerships.ensures
    (puts_last c.push_str-2.result c.put_partnerships.new.out _ (codes "</div></div></section>\n") c.push_str-2.ensures.bytes)
