use Rattle.std.specs.Prelude.{◌+◌, codes}
use Rattle.match_laws.specs.History.{side_of}
use Rattle.page.specs.Innings.{section_front, side_word, title_html}
use Rattle.page.proofs.Chains.{puts_four}
use Rattle.page.proofs.innings.put_heading.Goals as goal

pub returns : goal.returns
returns c = λ n h s.
    let sheet = c.args.sheet.now in
    let i = c.args.innings in
    let section = rw (c.side_word.ensures, c.side.ensures n h s) at c.in_ok-put_section.ensures in
    let total = rw c.cause_in.ensures at (c.put_total.ensures n h s) in
    puts_four c.put_total.result c.args.out.now c.put_section.new.out c.put_title.new.out c.push_str.new.self _
    (section_front (i + 1) (side_word (side_of h i))) (title_html sheet sheet.innings h i) (codes " ") _
    section (c.in_ok-put_title.ensures n h s) c.in_ok-push_str.ensures.bytes total
