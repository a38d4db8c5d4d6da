use Rattle.std.specs.Prelude.{codes}
use Rattle.match_laws.specs.History.{side_of}
use Rattle.page.specs.Bars.{line_class}
use Rattle.page.specs.Growth.{stroke_svg}
use Rattle.page.specs.Innings.{title_html}
use Rattle.page.proofs.Chains.{puts_three, puts_last}
use Rattle.page.proofs.growth.put_key.Goals as goal

pub returns : goal.returns
returns c = λ n h s.
    let sheet = c.args.sheet.now in
    let i = c.args.innings in
    let stroke = rw (c.line_class.ensures, c.side.ensures n h s) at c.in_ok-put_stroke.ensures in
    puts_three c.push_str.result c.args.out.now c.put_stroke.new.out c.put_title.new.out _
    (stroke_svg (line_class (side_of h i) i)) (title_html sheet sheet.innings h i) _
    stroke (c.in_ok-put_title.ensures n h s) (puts_last c.push_str.result c.put_title.new.out _ (codes "</li>") c.push_str.ensures.bytes)
