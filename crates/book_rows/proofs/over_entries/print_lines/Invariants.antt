use Rattle.std.proofs.Common.{◌≡◌, ◌≤◌}
use Rattle.streams.specs.Watched.{stream_of, failures}
use Rattle.book_rows.specs.OverEntries.{over_line}
use Rattle.book_rows.proofs.OverWalk.{Telling}
use Rattle.book_rows.proofs.over_entries.print_lines.Given as goal

abbrev pub invariant-loop-index : goal.invariant-loop-index
invariant-loop-index g l =
    Telling (over_line l.sheet l.wanted.side l.innings l.number) l.items l.index l.crease l.count
    (g.W.Sink.contents (stream_of l.initial.out)) (g.W.Sink.contents (stream_of l.out))
    × (l.count.begun ≤ l.index) × (l.count.overs ≤ l.index) × (l.count.balls ≤ l.index)
    × (failures l.out ≡ failures l.initial.out)
