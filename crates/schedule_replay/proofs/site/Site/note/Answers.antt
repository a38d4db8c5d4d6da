use Rattle.std.proofs.lemmas.Result.{on_ok_weaker}
use Rattle.schedule_replay.specs.inner.ShownScores.{DeskShows}
use Rattle.schedule_replay.proofs.ShowLemmas.{adds_book}
use Rattle.schedule_replay.proofs.site.Site.note.Goals as goal

pub note-requires-clause-one : goal.note-requires-clause-one
note-requires-clause-one c =
    λ other there. c.requires.one c.book_len.result c.shown.result.now other there
    (rw c.in-Some.is (c.book_len.ensures.entries, c.shown.ensures))

pub returns-in-Some : goal.returns-in-Some
returns-in-Some c =
    let shows : DeskShows c.args.self.now.desk c.book_len.result c.shown.result.now = rw c.in-Some.is (c.book_len.ensures.entries, c.shown.ensures) in
    record {
      noted = on_ok_weaker c.note.result (adds_book _ _ _ _ _ _ shows) c.note.ensures.noted;
      scored = on_ok_weaker c.note.result (λ _. rw c.in-Some.is (c.shown.result.now, c.shown.ensures)) c.note.ensures.noted;
      kept = c.note.ensures.kept;
    }
