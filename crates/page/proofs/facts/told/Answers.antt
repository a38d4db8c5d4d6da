use Rattle.std.proofs.Common.{ap, sym, ◌∙◌}
use Rattle.toml.proofs.Views.{table_get}
use Rattle.page.specs.Facts.{words_of}
use Rattle.page.proofs.facts.told.Goals as goal

pub returns-in-Some : goal.returns-in-Some
returns-in-Some c =
    let found = table_get c.get.result c.args.key.now c.args.table.now.entries c.get.ensures.value in
    rw (← rw c.in-Some.is at found) c.words_of.ensures

pub returns-in-None : goal.returns-in-None
returns-in-None c =
    let found = table_get c.get.result c.args.key.now c.args.table.now.entries c.get.ensures.value in
    rw (← rw c.in-None.is at found) c.new.ensures.bytes
