use Rattle.std.proofs.lemmas.Bool.{ne_eqb}
use Rattle.delivery_rows.proofs.Putting.{adds_cells}
use Rattle.delivery_rows.proofs.RowTexts.{ends_row}
use Rattle.delivery_rows.proofs.penalties.put_award.Goals as goal

pub returns : goal.returns
returns c =
    let innings = c.args.innings in
    let named = innings.named in
    let begun = c.extend_from_slice.new.self.items in
    let cells = adds_cells begun _ _ _ _ (rw c.as_bytes.ensures.value at c.in_ok-put.ensures) c.in_ok-put_figure.ensures in
    rw (ne_eqb c.args.runs 0 c.if-runs-eq0.false) (ends_row named.sheet.now innings.day.now named.side named.index c.end_row.result _ _ _ _ _ _ innings.begins
    c.in_ok-extend_from_slice.ensures.items cells c.end_row.ensures)
