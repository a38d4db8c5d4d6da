use Rattle.std.proofs.Common.{arith, refl, ◌∙◌, []}
use Rattle.agree_core.specs.declared.messages.DeskId.{DeskId}
use Rattle.desk.specs.Desk.{game_of}
use Rattle.match_command.specs.inner.Turns.{board_at}
use Rattle.match_command.proofs.MatchLeft.{keeps_book}
use Rattle.match_command.proofs.OnlineLemmas.{fresh_online}
use Rattle.match_command.proofs.match_run.turns.new_stations.Goals as goal

pub returns-in-Err-new_desk-2-clause-left : goal.returns-in-Err-new_desk-2-clause-left
returns-in-Err-new_desk-2-clause-left g c = λ input.
    let made = c.in-Ok-new_desk.ensures in
    let keeps = keeps_book c.in-Ok-new_desk.desk c.args.sheet.now DeskId.A refl made.owner.same_desk (made.owner.same_game ∙ c.game.ensures) [] made.turn.held in
    grind (arith, rw (← c.into_disk.ensures) at keeps, c.in-Err-new_desk-2.ensures)

pub returns-clause-online : goal.returns-clause-online
returns-clause-online g c = λ log. fresh_online (game_of c.in-Ok-new_desk.desk) log (board_at c.new-board.result) c.new-board.ensures.state
