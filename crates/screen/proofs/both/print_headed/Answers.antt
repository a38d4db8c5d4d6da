use Rattle.streams.proofs.Appending.{appends_both, appends_last}
use Rattle.screen.proofs.both.print_headed.Goals as goal

pub returns-clause-text : goal.returns-clause-text
returns-clause-text g c =
    let stands = c.score-score.ensures.score in
    let two = appends_both _ _ _ _ _ c.in_ok-write.ensures.bytes (c.in_ok-batting_card.ensures.text _ _ stands) in
    let three = appends_both _ _ _ _ _ two c.in_ok-write-2.ensures.bytes in
    appends_last c.bowling_card.result _ _ _ _ _ three (c.bowling_card.ensures.text _ _ stands)
