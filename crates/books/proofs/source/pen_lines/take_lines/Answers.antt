use Rattle.std.proofs.Common.{arith}
use Rattle.notation.proofs.Cuts.{length-lines_of}
use Rattle.books.proofs.source.pen_lines.take_lines.Goals as goal

pub overflow_add-number : goal.overflow_add-number
overflow_add-number c = omega (arith, c.loop-line.invariant.0.numbered, length-lines_of c.args.input.now, c.requires.short)
