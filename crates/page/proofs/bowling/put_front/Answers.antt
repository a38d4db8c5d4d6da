use Rattle.std.specs.Prelude.{codes}
use Rattle.cards.specs.Sheet.{name_of}
use Rattle.page.specs.Escapes.{name_html}
use Rattle.page.specs.declared.bowling.TheConstants.{HEADINGS}
use Rattle.page.proofs.Chains.{puts_four, puts_last}
use Rattle.page.proofs.bowling.put_front.Goals as goal

pub returns : goal.returns
returns c =
    let name = rw c.name.ensures at c.in_ok-put_name.ensures in
    puts_four c.push_str-3.result c.args.out.now c.push_str.new.self c.put_name.new.out c.push_str-2.new.self _
    (codes "<table><caption>") (name_html (name_of c.args.sheet.now c.args.side)) (codes " bowling</caption>") _
    c.in_ok-push_str.ensures.bytes name c.in_ok-push_str-2.ensures.bytes (puts_last c.push_str-3.result c.push_str-2.new.self _ HEADINGS.now c.push_str-3.ensures.bytes)
