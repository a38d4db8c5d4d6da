use Rattle.page.proofs.printing.put_cards.Goals as goal

pub returns : goal.returns
returns c = λ n h s f e. rw (c.as_str.ensures.value, c.in_ok-innings.ensures n h s f e) at c.put_or_no_play.ensures
