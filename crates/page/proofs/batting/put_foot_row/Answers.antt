use Rattle.std.specs.Prelude.{codes}
use Rattle.page.specs.Batting.{words_cells}
use Rattle.page.proofs.Chains.{puts_four}
use Rattle.page.proofs.batting.put_foot_row.Goals as goal

pub returns : goal.returns
returns c =
    puts_four c.put_runs.result c.args.out.now c.push_str.new.self c.push_str-2.new.self c.put_words.new.out _
    (codes "<tr><th scope='row'>") c.args.label.now (words_cells c.args.words.now) _
    c.in_ok-push_str.ensures.bytes c.in_ok-push_str-2.ensures.bytes c.in_ok-put_words.ensures c.put_runs.ensures
