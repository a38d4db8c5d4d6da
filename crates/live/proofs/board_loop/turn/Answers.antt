use Rattle.std.proofs.Common.{◌∙◌, ◌++◌, ◌∷◌, [], ap, length, refl, subst, sym}
use Rattle.std.specs.Prelude.{IsSome}
use Rattle.board.specs.Board.{book_of, game_of}
use Rattle.streams.specs.Watched.{stream_of}
use Rattle.live.specs.Paces.{Paced, ticking_of}
use Rattle.live.specs.Runs.{untyped}
use Rattle.live.specs.Sights.{sight_of}
use Rattle.live.specs.declared.pace.Pace.{Pace}
use Rattle.live.proofs.BoardLemmas.{finished, reads_clock, silent, stopped, then, turn_over}
use Rattle.live.proofs.HearingLemmas.{hears_nothing, then_hears}
use Rattle.live.proofs.board_loop.turn.Goals as goal

pub returns-in_err-print_news-clause-runs : goal.returns-in_err-print_news-clause-runs
returns-in_err-print_news-clause-runs g c = λ turns.
    let told = g.W.Sink.contents (stream_of c.args.scoreboard.now.lines) in
    let seen = g.S.Shows.seen c.args.scoreboard.now.state in
    let sheet = c.args.sheet.now in
    let had = length (g.B.BookOf.content (book_of c.args.board.now)) in
    let pace = c.take_all.new.between.pace in
    let took = c.take_all.ensures.goes sheet told seen turns had in
    let logs = untyped (g.L.Link.log c.take_all.new.link) (g.C.Clock.readings c.millis-now.new.self) told in
    let looked = c.look_apart.ensures.goes sheet logs seen turns had took.0 in
    stopped _ _ _ c.from_residual.result c.in_err-print_news.field-0.0 c.from_residual.ensures.1 refl refl (sym c.take_all.ensures.seen)
    (silent (then took.1 (then (reads_clock {ticking = ticking_of pace} c.millis-now.result pace.in_time c.millis-now.ensures) looked)))

pub returns-clause-runs : goal.returns-clause-runs
returns-clause-runs g c = λ turns.
    let content = g.B.BookOf.content in
    let innings = g.B.BookOf.innings_a_side in
    let told = g.W.Sink.contents (stream_of c.args.scoreboard.now.lines) in
    let seen = g.S.Shows.seen c.args.scoreboard.now.state in
    let sheet = c.args.sheet.now in
    let had = length (content (book_of c.args.board.now)) in
    let pace = c.take_all.new.between.pace in
    let took = c.take_all.ensures.goes sheet told seen turns had in
    let logs = untyped (g.L.Link.log c.take_all.new.link) (g.C.Clock.readings c.millis-now.new.self) told in
    let looked = c.look_apart.ensures.goes sheet logs seen turns had took.0 in
    let then_pace = c.look_apart.new.between.pace in
    let trouble = c.look_apart.new.between.telling.trouble in
    let old = c.len-before.ensures.entries ∙ ap (λ b. length (content b)) c.book.ensures in
    let text = rw old at c.in_ok-print_news.ensures.text in
    let shows = rw c.take_all.ensures.seen at c.show.ensures.seen ∙ ap (λ b. seen ++ sight_of sheet (innings b) (content b) trouble ∷ []) c.book-2.ensures in
    let rested = ap (λ (p : Paced). p.ticking) c.end_turn.ensures in
    let has_looked = subst (λ (p : Pace). IsSome (ticking_of p).looked) (sym c.look_apart.ensures.pace) c.take_all.ensures.looked in
    finished _ (then took.1 (then (reads_clock {ticking = ticking_of pace} c.millis-now.result pace.in_time c.millis-now.ensures) (then looked
    (turn_over {ticking = ticking_of then_pace} has_looked then_pace.in_time rested shows text))))

pub returns-in_err-print_news-clause-hears : goal.returns-in_err-print_news-clause-hears
returns-in_err-print_news-clause-hears g c =
    let game = game_of c.args.board.now in
    then_hears game c.take_all.ensures.hears (hears_nothing game (c.millis-now.result ∷ []) refl c.millis-now.ensures refl)

pub returns-clause-hears : goal.returns-clause-hears
returns-clause-hears g c =
    let game = game_of c.args.board.now in
    then_hears game c.take_all.ensures.hears (hears_nothing game (c.millis-now.result ∷ []) refl c.millis-now.ensures c.show.ensures.heard)
