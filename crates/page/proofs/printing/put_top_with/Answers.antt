use Rattle.page.proofs.printing.put_top_with.Goals as goal

pub returns : goal.returns
returns c =
    rw (c.as_str.ensures.value, c.as_str-2.ensures.value, c.as_str-3.ensures.value, c.in_ok-title.ensures, c.in_ok-facts.ensures, c.in_ok-ruled.ensures)
    at c.put_head.ensures
