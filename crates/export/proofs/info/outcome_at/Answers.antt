use Rattle.std.proofs.Common.{option_and_then, option_map, ap, sym, ◌∙◌}
use Rattle.toml.specs.Data.{get_member}
use Rattle.toml.proofs.Views.{table_get}
use Rattle.export.proofs.info.outcome_at.Goals as goal

pub returns-in-Some : goal.returns-in-Some
returns-in-Some c =
    let found = table_get c.get.result c.args.key.now c.in-Some.outcome.now.entries c.get.ensures.value in
    found ∙ ap (option_and_then (get_member c.args.key.now)) (ap (option_map _) (sym c.in-Some.is) ∙ c.table_in.ensures)

pub returns-in-None : goal.returns-in-None
returns-in-None c = ap (option_and_then (get_member c.args.key.now)) (ap (option_map _) (sym c.in-None.is) ∙ c.table_in.ensures)
