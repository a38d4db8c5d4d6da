use Rattle.streams.proofs.Appending.{appends_last}
use Rattle.station_texts.proofs.asides.print_not_taken.Goals as goal

pub returns-clause-text : goal.returns-clause-text
returns-clause-text g c =
    appends_last c.print_dropped.result _ _ _ _ _ c.in_ok-print_untaken.ensures.text c.print_dropped.ensures.text
