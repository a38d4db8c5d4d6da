use Rattle.page.proofs.batting.put_total.Goals as goal

pub returns : goal.returns
returns c = λ n h s.
    rw (c.as_str.ensures.value, c.in_ok-at.ensures n h s, c.from.ensures, c.total-total.ensures.value n h s) at c.put_foot_row.ensures
