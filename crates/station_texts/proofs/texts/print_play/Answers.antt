use Rattle.streams.proofs.Appending.{appends_both, appends_last}
use Rattle.station_texts.proofs.texts.print_play.Goals as goal

pub returns-clause-text : goal.returns-clause-text
returns-clause-text g c =
    let two = appends_both _ _ _ _ _ c.in_ok-print_line.ensures.text c.in_ok-writeln.ensures.bytes in
    appends_last c.print_row.result _ _ _ _ _ two c.print_row.ensures.text
