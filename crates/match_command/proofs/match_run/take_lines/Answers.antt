use Rattle.std.proofs.Common.{arith, refl, sym}
use Rattle.notation.proofs.Cuts.{length-lines_of}
use Rattle.desk.proofs.RestoreLemmas.{error_of}
use Rattle.match_command.specs.inner.Turns.{book_at}
use Rattle.books.proofs.TakenLines.{begins, ends, goes_on}
use Rattle.match_command.proofs.MatchLines.{line_left, one_reached, refused}
use Rattle.match_command.proofs.match_run.take_lines.Goals as goal

pub overflow_add-number : goal.overflow_add-number
overflow_add-number g c = omega (arith, c.loop-line.invariant.0.numbered, length-lines_of c.args.input.now, c.requires.short)

pub loop-line-init : goal.loop-line-init
loop-line-init g c = (
  begins _ c.args.input.now c.new-lines.result (book_at c.args.stations.now.a) c.new-lines.ensures c.requires.empty,
  c.requires.level,
  grind arith,
  grind arith,
  λ calm. calm,
  record { left = sym c.new-lines.ensures; is = sym c.requires.empty },
  λ start o. rw c.requires.empty o,
)

pub loop-line-preserved : goal.loop-line-preserved
loop-line-preserved g c =
    let m = c.loop-line.invariant in
    let took = c.in_ok-take.ensures in (
      goes_on _ _ _ _ _ _ (rw c.in-Some.ensures at m.0) _ _ m.2.innings_a_side took.taken took.book,
      took.level,
      grind (arith, m.2, c.take.ensures.owner_a),
      grind (arith, m.3, c.take.ensures.owner_b),
      λ calm. took.calm_still (m.4 calm),
      one_reached _ _ _ _ _ _ (rw c.in-Some.ensures at m.5) _ (rw m.2.innings_a_side at took.book),
      λ start o. (rw m.2.game at (took.online start)) (m.6 start o),
    )

pub returns-in_err-take-clause-why : goal.returns-in_err-take-clause-why
returns-in_err-take-clause-why g c =
    let m = c.loop-line.invariant in
    error_of c.from_residual.result c.in_err-take.field-0.0 _ c.from_residual.ensures.1
    (refused _ _ _ _ _ _ (rw c.in-Some.ensures at m.0) _ _ _ m.2.innings_a_side refl c.in_err-take.ensures.why)

pub returns-in_err-take-clause-left : goal.returns-in_err-take-clause-left
returns-in_err-take-clause-left g c =
    let m = c.loop-line.invariant in
    error_of c.from_residual.result c.in_err-take.field-0.0 _ c.from_residual.ensures.1
    (line_left _ _ _ _ _ _ (rw c.in-Some.ensures at m.5) c.take.new.self.a c.take.new.self.b _ _ _ m.2.innings_a_side m.0.long refl c.in_err-take.ensures.why c.in_err-take.ensures.left)

pub returns-clause-book : goal.returns-clause-book
returns-clause-book g c = ends _ c.args.input.now c.loop-line.lines c.loop-line.number (book_at c.loop-line.stations.a) c.in_default.ensures.0 c.loop-line.invariant.0
