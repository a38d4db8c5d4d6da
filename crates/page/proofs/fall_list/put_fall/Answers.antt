use Rattle.std.proofs.Common.{◌+◌}
use Rattle.cards.specs.Sheet.{player_of}
use Rattle.page.specs.Escapes.{name_html}
use Rattle.page.specs.Falls.{score_html}
use Rattle.page.proofs.Chains.{puts_three}
use Rattle.page.proofs.fall_list.put_fall.Goals as goal

pub returns : goal.returns
returns c =
    let name = rw c.player.ensures at c.in_ok-put_name.ensures in
    let fell = rw c.at_index.ensures at c.put_at.ensures in
    puts_three c.put_at.result c.args.out.now c.put_score.new.out c.put_name.new.out _
    (score_html (c.args.index + 1) c.args.fall.total) (name_html (player_of c.args.sheet.now c.args.side c.args.fall.player)) _
    c.in_ok-put_score.ensures name fell
