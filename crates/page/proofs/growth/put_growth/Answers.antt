use Rattle.page.proofs.growth.put_growth.Goals as goal

pub returns : goal.returns
returns c = λ n h s.
    rw (c.most_overs.ensures n h s, c.most_total.ensures n h s, c.as_str.ensures.value, c.in_ok-keys.ensures n h s, c.as_str-2.ensures.value, c.in_ok-lines.ensures n h s)
    at c.put_chart.ensures
