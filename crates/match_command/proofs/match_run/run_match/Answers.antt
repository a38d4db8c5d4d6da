use Rattle.std.proofs.Common.{refl, arith, ◌≡◌, ◌∙◌}
use Rattle.std.proofs.lemmas.List.{take_all}
use Rattle.agree_core.specs.declared.messages.DeskId.{DeskId}
use Rattle.desk.specs.Desk.{game_of}
use Rattle.board.specs.Board.{book_of}
use Rattle.match_command.specs.inner.Turns.{book_at}
use Rattle.match_command.proofs.MatchLeft.{keeps_book, lines_left}
use Rattle.match_command.proofs.match_run.run_match.Goals as goal

pub returns-in-Ok-clause-agreed : goal.returns-in-Ok-clause-agreed
returns-in-Ok-clause-agreed g c =
    let s = c.args.sheet.now in
    let at = c.play-answer.new.stations in
    let made = c.in_ok-stations.ensures in
    let ended = c.in-Ok.ensures in
    let level = ended.level in
    let game : game_of at.a ≡ s.game = ended.owner_a.game ∙ made.game in
    let online = ended.online (g.L.Link.log c.args.link.now) (made.online (g.L.Link.log c.args.link.now)) in
    record {
      book = book_at at.a;
      taken = rw made.innings at ended.book;
      at_a = rw c.into_disks-a.ensures.a (keeps_book at.a s DeskId.A refl level.is_a game (book_at at.a) level.level_a.held);
      at_b = rw c.into_disks-a.ensures.b (keeps_book at.b s DeskId.B refl level.is_b (level.game ∙ game) (book_at at.a) (rw level.book at level.level_b.held));
      shown = (book_of at.board).entries;
      long = level.long;
      written = rw made.innings at ended.written;
      passed = online.passed;
      since = online.since;
      same = λ gives. (online.follows gives).book ∙ take_all _ (book_at at.a) level.long;
    }

pub returns-in_err-stations-clause-left : goal.returns-in_err-stations-clause-left
returns-in_err-stations-clause-left g c =
    grind (arith, c.from_residual.ensures.1, c.expect_both_empty.ensures, c.in_err-stations.ensures.left c.args.input.now)

pub returns-in-Err-answer-clause-left : goal.returns-in-Err-answer-clause-left
returns-in-Err-answer-clause-left g c =
    let at = c.play-answer.new.stations in
    let made = c.in_ok-stations.ensures in
    let a = c.play-answer.ensures.owner_a in
    let b = c.play-answer.ensures.owner_b in
    rw (c.into_disks-a.ensures.a, c.into_disks-a.ensures.b)
    (lines_left at.a at.b c.args.sheet.now c.args.input.now refl (a.desk ∙ made.level.is_a) (b.desk ∙ made.level.is_b) (a.game ∙ made.game)
    (b.game ∙ (made.level.game ∙ made.game)) c.args.a c.args.b c.in-Err-answer.why (rw made.innings at c.in-Err-answer.ensures.left))
