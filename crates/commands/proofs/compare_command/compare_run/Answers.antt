use Rattle.std.proofs.lemmas.Option.{IfSome_then}
use Rattle.streams.specs.Watched.{stream_of}
use Rattle.commands.proofs.compare_command.compare_run.Goals as goal

pub returns-in-Ok-clause-written : goal.returns-in-Ok-clause-written
returns-in-Ok-clause-written g c =
    let read = c.in_ok-first.ensures in
    IfSome_then (g.R.Feed.remaining (stream_of c.args.a.now)) read.first (λ first a. IfSome_then (g.R.Feed.remaining (stream_of c.args.b.now)) read.second (λ second b. record {
      comparison = c.in_ok-comparison.comparison;
      made = rw (c.game.ensures, c.as_slice.ensures.value, c.as_slice-2.ensures.value, a, b) at c.in_ok-comparison.ensures.comparison;
      written = c.in-Ok.ensures.text;
      torn = c.is_some.ensures;
    }))
