use Rattle.live.proofs.DeskLemmas.{muted, passed_on, then}
use Rattle.live.proofs.reminding.remind.Goals as goal

pub returns-in_err-remind_of_writing-clause-goes : goal.returns-in_err-remind_of_writing-clause-goes
returns-in_err-remind_of_writing-clause-goes g c = λ sheet logs turns.
    passed_on _ _ c.from_residual.result c.in_err-remind_of_writing.field-0.0 c.from_residual.ensures.1 (c.in_err-remind_of_writing.ensures.goes sheet logs turns)

pub returns-clause-goes : goal.returns-clause-goes
returns-clause-goes g c = λ sheet logs turns.
    then (muted c.remind_of_silence.result (c.in_ok-remind_of_writing.ensures.goes sheet logs turns)) (c.remind_of_silence.ensures.goes sheet logs turns)
