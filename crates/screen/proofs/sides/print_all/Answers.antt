use Rattle.screen.proofs.sides.print_all.Goals as goal

pub returns-clause-text : goal.returns-clause-text
returns-clause-text g c = c.print_each.ensures.text
