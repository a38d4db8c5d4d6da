use Rattle.std.proofs.lemmas.Option.{IfSome_then}
use Rattle.std.proofs.lemmas.Result.{IfOk-weaker}
use Rattle.streams.specs.Watched.{stream_of}
use Rattle.replay_command.proofs.replay.replay_run.Goals as goal

pub returns-clause-written : goal.returns-clause-written
returns-clause-written g c =
    let found = rw c.as_slice.ensures.value at c.in_ok-events.ensures.found in
    let written = rw c.as_slice-2.ensures.value at c.print_run.ensures.written in
    IfOk-weaker c.print_run.result _ _ (λ refused prints. IfSome_then (g.R.Feed.remaining (stream_of c.args.reader.now)) c.in_ok-input.ensures.whole
    (λ input whole. (c.in_ok-events.events.items, rw whole at found, prints))) written
