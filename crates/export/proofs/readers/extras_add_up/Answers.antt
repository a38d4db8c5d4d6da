use Rattle.export.proofs.ExtraLemmas as lemmas
use Rattle.export.proofs.readers.extras_add_up.Goals as goal

pub returns : goal.returns
returns c = record { extras = lemmas.extras_add_up; balls = lemmas.balls_add_up }
