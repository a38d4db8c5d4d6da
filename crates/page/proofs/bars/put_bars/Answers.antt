use Rattle.std.proofs.Common.{◌+◌}
use Rattle.page.specs.Bars.{bars_caption, most_runs}
use Rattle.page.specs.Innings.{title_html}
use Rattle.page.proofs.Chains.{puts_two}
use Rattle.page.proofs.bars.put_bars.Goals as goal

pub returns : goal.returns
returns c = λ n h s.
    let sheet = c.args.sheet.now in
    let i = c.args.innings in
    let most = c.most_runs-most.ensures in
    let caption = rw most at (c.in_ok-put_bars_caption.ensures n h s) in
    let picture = rw (c.most_overs-overs.ensures n h s, most, c.line_class-class.ensures, c.side.ensures n h s, c.as_str.ensures.value, c.in_ok-bars.ensures) at c.put_bars_picture.ensures in
    puts_two c.put_bars_picture.result c.args.out.now c.put_bars_caption.new.out _
    (bars_caption (i + 1) (title_html sheet sheet.innings h i) (most_runs i c.args.moments.now)) _ caption picture
