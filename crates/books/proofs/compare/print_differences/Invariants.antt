use Rattle.std.proofs.Common.{◌≡◌, take}
use Rattle.std.specs.Io.KnownBytes.{Appends}
use Rattle.std.specs.List.{flat_map}
use Rattle.streams.specs.Watched.{stream_of, failures}
use Rattle.books.specs.Comparing.{difference_line}
use Rattle.books.proofs.compare.print_differences.Given as goal

-- the lines of the differences so far are written
abbrev pub invariant-loop-i : goal.invariant-loop-i
invariant-loop-i g l = record {
  written : Appends (g.W.Sink.contents (stream_of l.initial.out)) (g.W.Sink.contents (stream_of l.out)) (flat_map difference_line (take l.i l.differences));
  sound : failures l.out ≡ failures l.initial.out;
}
