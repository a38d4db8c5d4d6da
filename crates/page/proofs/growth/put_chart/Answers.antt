use Rattle.std.proofs.Common.{◌+◌}
use Rattle.page.specs.Bars.{figure_front, picture_front, width_of}
use Rattle.page.specs.Growth.{caption_html}
use Rattle.page.proofs.Chains.{puts_four}
use Rattle.page.proofs.growth.put_chart.Goals as goal

pub returns : goal.returns
returns c =
    let picture = rw (c.width_of.ensures, c.from.ensures) at c.in_ok-put_picture.ensures in
    puts_four c.put_lines.result c.args.out.now c.put_figure.new.out c.put_caption.new.out c.put_picture.new.out _
    (figure_front 0) (caption_html c.args.keys.now) (picture_front 0 (width_of c.args.overs) (c.args.most + 10)) _
    c.in_ok-put_figure.ensures c.in_ok-put_caption.ensures picture c.put_lines.ensures
