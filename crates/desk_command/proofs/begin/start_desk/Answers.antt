use Rattle.desk_command.proofs.KeepingLemmas.{was_stopped, was_written}
use Rattle.desk_command.proofs.begin.start_desk.Goals as goal

pub returns-clause-answer : goal.returns-clause-answer
returns-clause-answer c = was_stopped c.answer_of-answer.result _ c.ended-ended.ensures c.answer_of-answer.ensures.stopped

pub returns-clause-written : goal.returns-clause-written
returns-clause-written c = was_written c.answer_of-answer.result _ c.keep_on-life.ensures.failed c.is_seen-is_seen.ensures c.answer_of-answer.ensures.seen
