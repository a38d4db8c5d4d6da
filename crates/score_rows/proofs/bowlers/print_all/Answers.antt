use Rattle.score_rows.proofs.bowlers.print_all.Goals as goal

pub returns-clause-text : goal.returns-clause-text
returns-clause-text g c = c.print_among.ensures.text
