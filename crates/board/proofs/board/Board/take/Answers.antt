use Rattle.std.proofs.Common.{arith, subst}
use Rattle.std.proofs.lemmas.Grind.{common_steps}
use Rattle.agree_core.specs.declared.messages.Message.{Message}
use Rattle.wire.specs.Layout.{IsMessage}
use Rattle.board.proofs.board.Board.take.Goals as goal
use Rattle.board.proofs.board.Board.take.Given.{Over}
use Rattle.board.proofs.board.Board.take.Goals.{In-Ok-Vote}

-- the vote is a well-formed message
fine : (g : Over) (c : In-Ok-Vote g) → IsMessage (Message.Vote c.in-Ok-Vote.vote)
fine g c = subst IsMessage c.in-Ok-Vote.field-0-is (c.requires c.in-Ok-Vote.field-0 c.in-Ok-Vote.is)

pub hear-heard-requires : goal.hear-heard-requires
hear-heard-requires g c = (fine g (goal.at.hear-heard-requires g c).In-Ok-Vote).0

pub check-requires : goal.check-requires
check-requires g c = (fine g (goal.at.check-requires g c).In-Ok-Vote).1

pub push-requires-clause-in_range : goal.push-requires-clause-in_range
push-requires-clause-in_range g c = (fine g (goal.at.push-requires-clause-in_range g c).In-Ok-Vote).1

pub push-requires-clause-room : goal.push-requires-clause-room
push-requires-clause-room g c =
    let is = fine g (goal.at.push-requires-clause-room g c).In-Ok-Vote in
    grind (arith, common_steps, is)
