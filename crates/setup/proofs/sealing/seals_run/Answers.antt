use Rattle.std.proofs.lemmas.Option.{IfSome_then}
use Rattle.streams.specs.Watched.{stream_of}
use Rattle.setup.proofs.sealing.seals_run.Goals as goal

pub returns-clause-ring : goal.returns-clause-ring
returns-clause-ring g c = rw c.of.ensures (rw c.as_slice.ensures.value at c.in_ok-seals.ensures)

pub returns-clause-read : goal.returns-clause-read
returns-clause-read g c = IfSome_then (g.R.Feed.remaining (stream_of c.args.reader.now)) c.in_ok-bytes.ensures.whole (λ bytes same. rw c.of.ensures same)
