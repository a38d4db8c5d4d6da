use Rattle.streams.proofs.Appending.{appends_last}
use Rattle.station_texts.proofs.refusals.print_later.Goals as goal

pub returns-clause-text : goal.returns-clause-text
returns-clause-text g c =
    rw (← c.item_with-item.ensures.value) (appends_last c.print_later_words.result _ _ _ _ _ c.in_ok-print_later_numbers.ensures.text c.print_later_words.ensures.text)
