use Rattle.page.proofs.printing.put_top.Goals as goal

pub returns : goal.returns
returns g c = rw (c.as_str.ensures.value, c.in_ok-laws.ensures, c.info_or-info.ensures) at c.put_top_with.ensures
