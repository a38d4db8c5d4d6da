use Rattle.streams.proofs.Appending.{appends_last}
use Rattle.station_texts.proofs.texts.print_greeting.Goals as goal

pub returns-clause-text : goal.returns-clause-text
returns-clause-text g c =
    appends_last c.print_place.result _ _ _ _ _ c.in_ok-print_row.ensures.text c.print_place.ensures.text
