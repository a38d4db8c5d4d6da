use Rattle.std.proofs.lemmas.Option.{IfSome_then}
use Rattle.streams.specs.Watched.{stream_of}
use Rattle.commands.proofs.both_files.book_both_run.Goals as goal

pub returns-in-Ok-clause-written : goal.returns-in-Ok-clause-written
returns-in-Ok-clause-written g c =
    IfSome_then (g.R.Feed.remaining (stream_of c.args.a.now)) c.in_ok-placed.ensures.book (λ first both. IfSome_then (g.R.Feed.remaining (stream_of c.args.b.now)) both (λ second made.
    record { book = c.in_ok-placed.placed.book.entries; made = made; printed = c.in-Ok.ensures.written }))
