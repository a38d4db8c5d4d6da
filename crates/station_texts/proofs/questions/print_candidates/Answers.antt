use Rattle.streams.proofs.Appending.{appends_last}
use Rattle.station_texts.proofs.questions.print_candidates.Goals as goal

pub returns-clause-text : goal.returns-clause-text
returns-clause-text g c =
    appends_last c.writeln.result _ _ _ _ _ c.in_ok-write.ensures.bytes
    (appends_last c.writeln.result _ _ _ _ _ c.in_ok-print_all.ensures.text c.writeln.ensures.bytes)
