use Rattle.std.proofs.lemmas.Bool.{lt-ltb}
use Rattle.book_rows.proofs.listing.print_go_on.Goals as goal

pub returns-then-stop-end-clause-text : goal.returns-then-stop-end-clause-text
returns-then-stop-end-clause-text g c = rw (lt-ltb c.args.stop c.args.end c.if-stop-end.true) c.print_range_word.ensures.text
