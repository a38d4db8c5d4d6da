use Rattle.std.proofs.Common.{◌∙◌, ap}
use Rattle.board.specs.Board.{game_of, rules_of, state_of}
use Rattle.agree_core.specs.declared.position.Position.{Position}
use Rattle.live.specs.Boards.{desk_ahead_in, later_after, memory_of}
use Rattle.live.specs.Paces.{Paced}
use Rattle.live.proofs.BoardLemmas.{given_to}
use Rattle.live.proofs.RoundLemmas.{later_noted, rounds_noted, unrecalled}
use Rattle.live.proofs.board_loop.give.Goals as goal

pub returns-clause-goes : goal.returns-clause-goes
returns-clause-goes g c = λ bytes sheet logs seen turns had taken reads few.
    let answer = c.take-answer in
    let board = c.args.board.now in
    let rules = rules_of g.B.BookOf.innings_a_side board in
    let k = state_of g.B.BookOf.content board in
    let l = state_of g.B.BookOf.content answer.new.self in
    let rounds = c.args.watch.now.witness in
    let before = c.args.between.now.later in
    let noted = rounds_noted rules (game_of board) k l bytes c.args.read.now reads answer.result c.entry_in.result rounds c.entry_in.ensures (answer.ensures.step bytes reads) in
    let ahead = later_noted rules (game_of board) k l bytes c.args.read.now reads answer.result c.position-at.result.place c.desk_later-desk.result before c.desk_later-desk.ensures (answer.ensures.step bytes reads)
    ∙ ap (λ (p : Position). later_after before (desk_ahead_in p.place bytes) answer.result) c.position-at.ensures in
    given_to bytes answer.result c.args.between.now.pace.in_time (ap (λ (p : Paced). p.ticking) c.note-2.ensures) few c.requires.goes_on
    (unrecalled rules (game_of board) k l bytes c.args.read.now reads rounds c.requires.kept) answer.ensures.same (answer.ensures.step bytes reads)
    (λ i. memory_of (c.after-between.ensures i) ((rw c.round_with-round.ensures at c.remember.ensures ∙ noted) i) ((c.after-between-2.ensures ∙ ahead) i)) c.tell.ensures
