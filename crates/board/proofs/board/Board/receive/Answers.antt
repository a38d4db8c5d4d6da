use Rattle.std.proofs.Common.{subst}
use Rattle.wire.specs.Reading.{Reads}
use Rattle.board.specs.Board.{game_of}
use Rattle.board.proofs.board.Board.receive.Goals as goal

pub take-requires : goal.take-requires
take-requires g c = λ m is. (subst (Reads (game_of c.args.self.now) c.args.bytes.now) is c.message_of-read.ensures.reads).0

pub returns-clause-step : goal.returns-clause-step
returns-clause-step g c = c.take.ensures.step c.args.bytes.now c.message_of-read.ensures.reads
