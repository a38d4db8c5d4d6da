use Rattle.std.specs.Prelude.{codes}
use Rattle.page.specs.Bars.{all_bars}
use Rattle.page.specs.Growth.{growth_html}
use Rattle.page.specs.declared.charts.TheConstants.{CHARTS}
use Rattle.page.proofs.Chains.{puts_four, puts_last}
use Rattle.page.proofs.charts.put_figures.Goals as goal

pub returns : goal.returns
returns c = λ n h s.
    let sheet = c.args.sheet.now in
    let ms = c.args.moments.now in
    let bars = rw (c.as_str.ensures.value, c.in_ok-bars.ensures n h s) at c.in_ok-push_str-2.ensures.bytes in
    puts_four c.push_str-3.result c.args.out.now c.push_str.new.self c.push_str-2.new.self c.put_growth.new.out _
    CHARTS.now (all_bars sheet sheet.innings h ms) (growth_html sheet sheet.innings h ms) _
    c.in_ok-push_str.ensures.bytes bars (c.in_ok-put_growth.ensures n h s)
    (puts_last c.push_str-3.result c.put_growth.new.out _ (codes "</div>\n</section>\n") c.push_str-3.ensures.bytes)
