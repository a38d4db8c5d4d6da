use Rattle.streams.proofs.Appending.{appends_last}
use Rattle.books.proofs.card.print_both.Goals as goal

pub returns-clause-text : goal.returns-clause-text
returns-clause-text g c =
    λ n h s. appends_last c.bowling_card.result _ _ _ _ _ (c.in_ok-batting_card.ensures.text n h s) (c.bowling_card.ensures.text n h s)
