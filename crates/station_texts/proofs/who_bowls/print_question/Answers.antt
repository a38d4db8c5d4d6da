use Rattle.streams.proofs.Appending.{appends_last}
use Rattle.station_texts.proofs.who_bowls.print_question.Goals as goal

pub returns-clause-text : goal.returns-clause-text
returns-clause-text g c =
    appends_last c.print_who_may.result _ _ _ _ _ c.in_ok-print_unclear.ensures.text c.print_who_may.ensures.text
