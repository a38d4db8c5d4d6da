use Rattle.std.proofs.Common.{codes}
use Rattle.toml.proofs.Views.{table_get}
use Rattle.delivery_rows.proofs.day.day_of.Goals as goal

pub returns-in-Some : goal.returns-in-Some
returns-in-Some c =
    let found = table_get c.get.result (codes "dates") c.info_or.result.now.entries c.get.ensures.value in
    rw (← c.info_or.ensures, ← rw c.in-Some.is at found) c.first_text.ensures

pub returns : goal.returns
returns c =
    let found = table_get c.get.result (codes "dates") c.info_or.result.now.entries c.get.ensures.value in
    rw (← c.info_or.ensures, ← rw c.in-None.is at found) c.new.ensures.bytes
