use Rattle.std.proofs.Common.{◌≡◌, take}
use Rattle.std.specs.Io.KnownBytes.{Appends}
use Rattle.streams.specs.Watched.{stream_of, failures}
use Rattle.schedule_replay.specs.CodeWorlds.{board_state}
use Rattle.replay_command.specs.Replay.{board_line, numbered}
use Rattle.replay_command.proofs.replay.print.print_boards.Given as goal

-- the lines of the boards so far are written
abbrev pub invariant-loop-before : goal.invariant-loop-before
invariant-loop-before g l = record {
  written : Appends (g.W.Sink.contents (stream_of l.initial.out)) (g.W.Sink.contents (stream_of l.out))
      (numbered (λ n k. board_line n (board_state k)) 1 (take l.before l.boards));
  sound : failures l.out ≡ failures l.initial.out;
}
