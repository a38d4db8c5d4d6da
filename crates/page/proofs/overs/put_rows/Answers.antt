use Rattle.std.specs.Prelude.{codes}
use Rattle.page.specs.Innings.{title_html}
use Rattle.page.specs.Overs.{caption_html}
use Rattle.page.proofs.Chains.{puts_three, puts_last}
use Rattle.page.proofs.overs.put_rows.Goals as goal

pub returns : goal.returns
returns c = λ n h s.
    let sheet = c.args.sheet.now in
    puts_three c.push_str-2.result c.args.out.now c.put_caption.new.out c.push_str.new.self _
    (caption_html (title_html sheet sheet.innings h c.args.innings)) c.args.rows.now _
    (c.in_ok-put_caption.ensures n h s) c.in_ok-push_str.ensures.bytes (puts_last c.push_str-2.result c.push_str.new.self _ (codes "</tbody></table>\n") c.push_str-2.ensures.bytes)
