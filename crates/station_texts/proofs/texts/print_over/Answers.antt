use Rattle.streams.proofs.Appending.{appends_both, appends_last}
use Rattle.station_texts.proofs.texts.print_over.Goals as goal

pub returns-clause-text : goal.returns-clause-text
returns-clause-text g c =
    let two = appends_both _ _ _ _ _ c.in_ok-print_line.ensures.text (c.in_ok-print_called.ensures.text _ _ c.score-score.ensures.score) in
    let three = appends_both _ _ _ _ _ two c.in_ok-print_over_note.ensures.text in
    let four = appends_both _ _ _ _ _ three (c.in_ok-print_result.ensures.text _ _ c.score-score.ensures.score) in
    let five = appends_both _ _ _ _ _ four c.in_ok-writeln.ensures.bytes in
    appends_last c.print_check.result _ _ _ _ _ five c.print_check.ensures.text
