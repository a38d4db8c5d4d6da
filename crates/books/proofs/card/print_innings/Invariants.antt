use Rattle.std.proofs.Common.{◌≡◌}
use Rattle.std.specs.Io.KnownBytes.{Appends}
use Rattle.match_laws.specs.Stands.{ForEachHistory}
use Rattle.streams.specs.Watched.{stream_of, failures}
use Rattle.books.specs.Card.{cards_of}
use Rattle.books.proofs.card.print_innings.Given as goal

-- both cards of the innings so far are written
abbrev pub invariant-loop-innings : goal.invariant-loop-innings
invariant-loop-innings g l = record {
  written : ForEachHistory l.score (λ n h. Appends (g.W.Sink.contents (stream_of l.initial.out)) (g.W.Sink.contents (stream_of l.out)) (cards_of l.sheet h l.innings));
  sound : failures l.out ≡ failures l.initial.out;
}
