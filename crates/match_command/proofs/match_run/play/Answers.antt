use Rattle.std.proofs.Math.Seq.{take-length}
use Rattle.notation.specs.Lines.{lines_of}
use Rattle.match_command.proofs.match_run.play.Goals as goal

pub returns-in-Err-clause-left : goal.returns-in-Err-clause-left
returns-in-Err-clause-left g c =
    let took = c.in_ok-take_lines.ensures in
    rw (take-length (lines_of c.args.input.now), ← took.book.entries) (took.level.level_a.held, rw took.level.book at took.level.level_b.held)
