use Rattle.page.proofs.batting.put_extras.Goals as goal

pub returns : goal.returns
returns c = rw (c.as_str.ensures.value, c.in_ok-kinds.ensures, c.all_extras.ensures) at c.put_foot_row.ensures
