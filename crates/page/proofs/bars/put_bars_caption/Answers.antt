use Rattle.std.specs.Prelude.{codes}
use Rattle.page.specs.Bars.{figure_front}
use Rattle.page.specs.Innings.{title_html}
use Rattle.page.proofs.Chains.{puts_four}
use Rattle.std.proofs.Common.{◌+◌}
use Rattle.page.proofs.bars.put_bars_caption.Goals as goal

pub returns : goal.returns
returns c = λ n h s.
    let sheet = c.args.sheet.now in
    let i = c.args.innings in
    puts_four c.put_most.result c.args.out.now c.put_figure.new.out c.push_str.new.self c.put_title.new.out _
    (figure_front (i + 1)) (codes "Runs an over: ") (title_html sheet sheet.innings h i) _
    c.in_ok-put_figure.ensures c.in_ok-push_str.ensures.bytes (c.in_ok-put_title.ensures n h s) c.put_most.ensures
