use Rattle.std.proofs.Common.{arith, codes}
use Rattle.toml.proofs.Views.{table_get}
use Rattle.export.proofs.info.has_event.Goals as goal

pub returns : goal.returns
returns c = grind (arith, table_get c.get.result (codes "event") c.args.info.now.entries c.get.ensures.value)
