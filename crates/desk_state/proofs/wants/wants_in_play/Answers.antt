use Rattle.std.proofs.Common.{arith, ◌≤◌}
use Rattle.match_laws.specs.History.{begun}
use Rattle.match_laws.proofs.LegalLemmas.{open_begun}
use Rattle.corrections.specs.CleanList.{history_of}
use Rattle.desk_state.proofs.wants.wants_in_play.Goals as goal

pub overflow_sub-innings : goal.overflow_sub-innings
overflow_sub-innings g c =
    let h = history_of (g.B.BookOf.content c.args.book.now) in
    let some : 1 ≤ begun h = open_begun h c.requires in
    omega (arith, c.begun-innings.ensures.value _ _ c.score-score.ensures.score)

pub overs-counted-requires : goal.overs-counted-requires
overs-counted-requires g c =
    let h = history_of (g.B.BookOf.content c.args.book.now) in
    let some : 1 ≤ begun h = open_begun h c.requires in
    omega (arith, c.begun-innings.ensures.value _ _ c.score-score.ensures.score, c.begun-innings.ensures.innings)
