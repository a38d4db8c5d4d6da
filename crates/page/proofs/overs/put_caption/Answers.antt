use Rattle.std.specs.Prelude.{codes}
use Rattle.page.specs.Innings.{title_html}
use Rattle.page.specs.declared.overs.TheConstants.{HEADINGS}
use Rattle.page.proofs.Chains.{puts_three, puts_last}
use Rattle.page.proofs.overs.put_caption.Goals as goal

pub returns : goal.returns
returns c = λ n h s.
    let sheet = c.args.sheet.now in
    puts_three c.push_str-2.result c.args.out.now c.push_str.new.self c.put_title.new.out _
    (codes "<table><caption>") (title_html sheet sheet.innings h c.args.innings) _
    c.in_ok-push_str.ensures.bytes (c.in_ok-put_title.ensures n h s) (puts_last c.push_str-2.result c.put_title.new.out _ HEADINGS.now c.push_str-2.ensures.bytes)
