use Rattle.station_texts.proofs.said.entry_text.Goals as goal

pub returns-then-differs-2-clause-none : goal.returns-then-differs-2-clause-none
returns-then-differs-2-clause-none g c = λ votes. rw c.if-differs-2.true (c.bare_said.ensures votes)
