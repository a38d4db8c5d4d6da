use Rattle.std.specs.Prelude.{codes}
use Rattle.match_laws.specs.History.{opponent}
use Rattle.cards.specs.Sheet.{player_of}
use Rattle.page.specs.Batting.{words_cells}
use Rattle.page.specs.Dismissals.{fate_html}
use Rattle.page.specs.Escapes.{name_html}
use Rattle.page.proofs.Chains.{puts_four}
use Rattle.page.proofs.batting.put_row.Goals as goal

pub returns : goal.returns
returns c =
    let sheet = c.args.sheet.now in
    let side = c.args.side in
    let name = rw c.player.ensures at c.in_ok-put_name.ensures in
    let words = rw (c.as_str.ensures.value, c.in_ok-how.ensures, c.opponent.ensures) at c.in_ok-put_words.ensures in
    puts_four c.put_figures.result c.args.out.now c.push_str.new.self c.put_name.new.out c.put_words.new.out _
    (codes "<tr><th scope='row'>") (name_html (player_of sheet side c.args.player)) (words_cells (fate_html sheet (opponent side) c.args.row.now.fate)) _
    c.in_ok-push_str.ensures.bytes name words c.put_figures.ensures
