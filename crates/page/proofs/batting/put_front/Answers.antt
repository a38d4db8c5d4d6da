use Rattle.std.specs.Prelude.{codes}
use Rattle.match_laws.specs.History.{side_of}
use Rattle.cards.specs.Sheet.{name_of}
use Rattle.page.specs.Escapes.{name_html}
use Rattle.page.specs.declared.batting.TheConstants.{HEADINGS}
use Rattle.page.proofs.Chains.{puts_four, puts_last}
use Rattle.page.proofs.batting.put_front.Goals as goal

pub returns : goal.returns
returns c = λ n h s.
    let name = rw (c.name.ensures, c.side-side.ensures n h s) at c.in_ok-put_name.ensures in
    puts_four c.push_str-3.result c.args.out.now c.push_str.new.self c.put_name.new.out c.push_str-2.new.self _
    (codes "<table><caption>") (name_html (name_of c.args.sheet.now (side_of h c.args.innings))) (codes " batting</caption>") _
    c.in_ok-push_str.ensures.bytes name c.in_ok-push_str-2.ensures.bytes (puts_last c.push_str-3.result c.push_str-2.new.self _ HEADINGS.now c.push_str-3.ensures.bytes)
