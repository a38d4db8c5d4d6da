use Rattle.board_command.proofs.KeepingLemmas.{answered}
use Rattle.board_command.proofs.begin.start_board.Goals as goal

pub returns-clause-answer : goal.returns-clause-answer
returns-clause-answer c = answered c.answer_of-answer.result c.ended.ensures c.answer_of-answer.ensures
