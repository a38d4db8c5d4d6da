use Rattle.streams.proofs.Appending.{appends_both, appends_last}
use Rattle.book_rows.proofs.listing.print_line.Goals as goal

pub returns-clause-text : goal.returns-clause-text
returns-clause-text g c =
    let two = appends_both _ _ _ _ _ c.in_ok-print_entry.ensures.text c.in_ok-print_note.ensures.text in
    rw (← c.corrected_at.ensures) (appends_last c.writeln.result _ _ _ _ _ two c.writeln.ensures.bytes)
