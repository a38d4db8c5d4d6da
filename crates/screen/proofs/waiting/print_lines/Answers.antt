use Rattle.streams.proofs.Appending.{appends_both, appends_last}
use Rattle.screen.proofs.waiting.print_lines.Goals as goal

pub returns-clause-text : goal.returns-clause-text
returns-clause-text g c =
    let stands = c.score-score.ensures.score in
    let head = rw (c.side.ensures _ _ stands) at c.in_ok-print_head.ensures.text in
    let two = appends_both _ _ _ _ _ head (c.in_ok-print_all.ensures.text _ _ stands) in
    appends_last c.writeln.result _ _ _ _ _ two c.writeln.ensures.bytes
