use Rattle.station_texts.proofs.said.entry_said.Goals as goal

pub returns-in-Some-word-clause-none : goal.returns-in-Some-word-clause-none
returns-in-Some-word-clause-none g c = λ votes same.
    c.in-Some-word.ensures.word votes c.args.differs c.args.is_cast

pub returns-in-Err-clause-none : goal.returns-in-Err-clause-none
returns-in-Err-clause-none g c = λ votes same. c.in-Err.ensures.none votes
