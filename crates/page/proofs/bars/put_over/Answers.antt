use Rattle.page.specs.Bars.{bar_svg}
use Rattle.page.proofs.Chains.{puts_two}
use Rattle.page.proofs.bars.put_over.Goals as goal

pub returns : goal.returns
returns c =
    let m = c.args.moment.now in
    puts_two c.put_wickets.result c.args.out.now c.put_bar.new.out _ (bar_svg m.overs m.over.runs) _ c.in_ok-put_bar.ensures c.put_wickets.ensures
