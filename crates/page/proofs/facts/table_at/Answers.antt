use Rattle.std.proofs.Common.{refl}
use Rattle.toml.proofs.Views.{table_get}
use Rattle.page.proofs.facts.table_at.Goals as goal

pub returns-in-Some : goal.returns-in-Some
returns-in-Some c =
    rw (← rw c.in-Some.is at (table_get c.get.result c.args.key.now c.args.table.now.entries c.get.ensures.value)) c.as_table.ensures

pub returns-in-None : goal.returns-in-None
returns-in-None c = rw (← rw c.in-None.is at (table_get c.get.result c.args.key.now c.args.table.now.entries c.get.ensures.value)) refl
