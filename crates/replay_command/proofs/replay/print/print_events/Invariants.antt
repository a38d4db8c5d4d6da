use Rattle.std.proofs.Common.{◌≡◌, take}
use Rattle.std.specs.Io.KnownBytes.{Appends}
use Rattle.streams.specs.Watched.{stream_of, failures}
use Rattle.replay_command.specs.Replay.{event_lines}
use Rattle.replay_command.proofs.replay.print.print_events.Given as goal

-- the lines of the events so far are written
abbrev pub invariant-loop-before : goal.invariant-loop-before
invariant-loop-before g l = record {
  written : Appends (g.W.Sink.contents (stream_of l.initial.out)) (g.W.Sink.contents (stream_of l.out))
      (event_lines (take l.before l.outcomes));
  sound : failures l.out ≡ failures l.initial.out;
}
