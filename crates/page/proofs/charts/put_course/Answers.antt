use Rattle.page.specs.Overs.{all_overs, in_section}
use Rattle.page.proofs.Chains.{puts_two}
use Rattle.page.proofs.charts.put_course.Goals as goal

pub returns : goal.returns
returns c = λ n h s.
    let sheet = c.args.sheet.now in
    puts_two c.put_charts.result c.args.out.now c.put_overs.new.out _ (in_section (all_overs sheet sheet.innings h c.args.moments.now)) _
    (c.in_ok-put_overs.ensures n h s) (c.put_charts.ensures n h s)
