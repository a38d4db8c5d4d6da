use Rattle.streams.proofs.Appending.{appends_last}
use Rattle.station_texts.proofs.plan_text.print_against.Goals as goal

pub returns-clause-text : goal.returns-clause-text
returns-clause-text g c =
    appends_last c.print_later_words.result _ _ _ _ _ c.in_ok-print_words.ensures.text c.print_later_words.ensures.text
