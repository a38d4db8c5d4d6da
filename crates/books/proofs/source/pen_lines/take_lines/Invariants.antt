use Rattle.std.proofs.Common.{◌≡◌, length}
use Rattle.books.specs.Table.{IsInStep, agreed_in, innings_in}
use Rattle.books.proofs.TakenLines.{Midway}
use Rattle.books.proofs.source.pen_lines.take_lines.Given as goal

abbrev pub invariant-loop-line : goal.invariant-loop-line
invariant-loop-line l =
    Midway (innings_in l.initial.table) l.input l.lines l.number (agreed_in l.table)
    × IsInStep l.table × (innings_in l.table ≡ innings_in l.initial.table)

abbrev pub decreases-loop-line : goal.decreases-loop-line
decreases-loop-line l = length l.lines
