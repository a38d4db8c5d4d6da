use Rattle.streams.proofs.Appending.{appends_both, appends_last}
use Rattle.score_rows.specs.Row.{innings_row}
use Rattle.score_rows.proofs.row.print_innings.Goals as goal

pub returns-clause-text : goal.returns-clause-text
unfolding innings_row
returns-clause-text g c =
    let stands = c.score-score.ensures.score in
    let form = c.form_of-form.ensures in
    let above = rw (c.above.ensures _ _ stands, form) at c.in_ok-print.ensures.text in
    let line = rw (c.line_in.ensures, form) at c.in_ok-print-2.ensures.text in
    let row = appends_both _ _ _ _ _ (appends_both _ _ _ _ _ above line) c.in_ok-writeln.ensures.bytes in
    let below = rw (c.limits_below.ensures, form) at c.in_ok-print-3.ensures.text in
    let needs = rw (c.needs_row.ensures _ _ stands, c.left_now.ensures _ _ stands) at c.in_ok-print-4.ensures.text in
    let three = appends_both _ _ _ _ _ (appends_both _ _ _ _ _ row below) needs in
    let result = rw (c.result_row.ensures _ _ stands) at c.print-5.ensures.text in
    appends_last c.print-5.result _ _ _ _ _ three result
