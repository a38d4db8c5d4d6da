use Rattle.std.proofs.Common.{arith}
use Rattle.agree_core.proofs.Boards.{board_asks, board_grows, board_receives_keeps, fresh_fine}
use Rattle.agree_core.proofs.step_laws.boards_are_those_of_the_votes.Goals as goal

pub returns : goal.returns
returns g c = search (arith, fresh_fine, board_receives_keeps, board_asks, board_grows)
