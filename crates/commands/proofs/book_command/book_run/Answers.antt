use Rattle.std.proofs.lemmas.Option.{IfSome_then}
use Rattle.std.proofs.lemmas.Result.{IfOk-weaker}
use Rattle.streams.specs.Watched.{stream_of}
use Rattle.commands.proofs.LinesAgain.{input_allowed}
use Rattle.commands.proofs.book_command.book_run.Goals as goal

pub print_product-requires-clause-legal : goal.print_product-requires-clause-legal
print_product-requires-clause-legal g c = input_allowed c.args.source c.args.sheet.now _ _ c.in_ok-book.ensures.book

pub returns-clause-written : goal.returns-clause-written
returns-clause-written g c =
    let made = rw c.as_slice.ensures.value at c.in_ok-book.ensures.book in
    IfOk-weaker c.print_product.result _ _ (λ told printed. IfSome_then (g.R.Feed.remaining (stream_of c.args.reader.now)) c.in_ok-input.ensures.whole
    (λ input whole. record { book = c.in_ok-book.book.entries; made = rw whole at made; printed = printed })) c.print_product.ensures.written
