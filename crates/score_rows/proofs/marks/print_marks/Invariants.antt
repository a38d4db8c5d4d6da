use Rattle.std.proofs.Common.{◌≡◌, take}
use Rattle.std.specs.Io.KnownBytes.{Appends}
use Rattle.corrections.specs.Overs.{balls_of}
use Rattle.score_rows.specs.Row.{marks}
use Rattle.streams.specs.Watched.{stream_of, failures}
use Rattle.score_rows.proofs.marks.print_marks.Given as goal

abbrev pub invariant-loop-placed : goal.invariant-loop-placed
invariant-loop-placed g l =
    Appends (g.W.Sink.contents (stream_of l.initial.out)) (g.W.Sink.contents (stream_of l.out)) (marks (balls_of (take l.placed-index l.over)))
    × (failures l.out ≡ failures l.initial.out)
