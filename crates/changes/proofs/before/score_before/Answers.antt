use Rattle.std.proofs.Common.{subst}
use Rattle.match_laws.specs.Stands.{StandsFor}
use Rattle.changes.proofs.Undone.{legal_before}
use Rattle.changes.proofs.before.score_before.Goals as goal

pub returns-in-Ok-clause-score : goal.returns-in-Ok-clause-score
returns-in-Ok-clause-score g c =
    let n = g.B.BookOf.innings_a_side c.args.book.now in
    let book = g.B.BookOf.content c.args.book.now in
    record {
      legal = legal_before n book c.score-score.ensures.legal;
      score = subst (StandsFor c.in-Ok.score n) c.in_ok-back.ensures.value.same c.in-Ok.ensures.1;
    }
