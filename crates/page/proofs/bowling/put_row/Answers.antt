use Rattle.std.specs.Prelude.{codes}
use Rattle.cards.specs.Sheet.{player_of}
use Rattle.page.specs.Bowling.{figures_front}
use Rattle.page.specs.Escapes.{name_html}
use Rattle.page.proofs.Chains.{puts_four}
use Rattle.page.proofs.bowling.put_row.Goals as goal

pub returns : goal.returns
returns c =
    let name = rw c.player.ensures at c.in_ok-put_name.ensures in
    puts_four c.put_figures_back.result c.args.out.now c.push_str.new.self c.put_name.new.out c.put_figures_front.new.out _
    (codes "<tr><th scope='row'>") (name_html (player_of c.args.sheet.now c.args.side c.args.player)) (figures_front c.args.row.now) _
    c.in_ok-push_str.ensures.bytes name c.in_ok-put_figures_front.ensures c.put_figures_back.ensures
