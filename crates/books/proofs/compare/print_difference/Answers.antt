use Rattle.streams.proofs.Appending.{appends_both, appends_last}
use Rattle.books.proofs.compare.print_difference.Goals as goal

pub returns-clause-text : goal.returns-clause-text
returns-clause-text g c =
    let head = appends_both _ _ _ _ _ c.in_ok-print_position.ensures.text c.in_ok-write.ensures.bytes in
    let first = appends_both _ _ _ _ _ head c.in_ok-print_vote.ensures.text in
    let comma = appends_both _ _ _ _ _ first c.in_ok-write-2.ensures.bytes in
    let second = appends_both _ _ _ _ _ comma c.in_ok-print_vote-2.ensures.text in
    appends_last c.writeln.result _ _ _ _ _ second c.writeln.ensures.bytes
