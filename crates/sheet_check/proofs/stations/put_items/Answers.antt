use Rattle.sheet_check.specs.Reports.{faults_in}
use Rattle.sheet_check.proofs.Puts.{then_put}
use Rattle.sheet_check.proofs.stations.put_items.Goals as goal

pub returns : goal.returns
returns c =
    rw (← c.are_texts-are_texts.ensures, ← c.count_of-are_few.ensures)
    (then_put c.put_unless-2.result (faults_in c.args.out.now) (faults_in c.put_unless-2.new.out) (faults_in c.put_unless.new.out) _ _
    c.in_ok-put_unless.ensures c.put_unless-2.ensures)
