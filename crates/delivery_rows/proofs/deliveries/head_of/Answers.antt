use Rattle.std.proofs.Common.{◌∙◌}
use Rattle.delivery_rows.proofs.RowTexts.{head_made}
use Rattle.delivery_rows.proofs.deliveries.head_of.Goals as goal

pub returns : goal.returns
returns c =
    let first = rw (c.new-head.ensures.items, c.game.ensures) at c.in_ok-begin_row.ensures in
    c.in_ok-put_innings.ensures ∙ (rw first (head_made c.args.innings.sheet.now c.args.day.now c.args.innings.side c.args.innings.index))
