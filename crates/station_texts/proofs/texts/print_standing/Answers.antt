use Rattle.streams.proofs.Appending.{appends_both, appends_last}
use Rattle.station_texts.proofs.texts.print_standing.Goals as goal

pub returns-clause-text : goal.returns-clause-text
returns-clause-text g c =
    let two = appends_both _ _ _ _ _ c.in_ok-print_greeting.ensures.text c.in_ok-print_other.ensures.text in
    let three = appends_both _ _ _ _ _ two c.in_ok-print_silence.ensures.text in
    appends_last c.print_doubted.result _ _ _ _ _ three c.print_doubted.ensures.text
