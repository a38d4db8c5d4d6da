use Rattle.streams.proofs.Appending.{appends_last}
use Rattle.screen.proofs.both.print_innings.Goals as goal

pub returns-clause-text : goal.returns-clause-text
returns-clause-text g c =
    let stands = c.score-score.ensures.score in
    appends_last c.bowling_card.result _ _ _ _ _ (c.in_ok-batting_card.ensures.text _ _ stands) (c.bowling_card.ensures.text _ _ stands)
