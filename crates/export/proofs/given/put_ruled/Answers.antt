use Rattle.std.proofs.Common.{ap, codes, option_map, sym, ◌∙◌}
use Rattle.std.proofs.lemmas.Result.{on_ok_weaker}
use Rattle.toml.specs.View.{table_view, view}
use Rattle.toml.proofs.Views.{table_get}
use Rattle.export.proofs.GivenLemmas.{puts_none, puts_ruled}
use Rattle.export.proofs.given.put_ruled.Goals as goal

pub returns-in_ok-token-in-Some : goal.returns-in_ok-token-in-Some
returns-in_ok-token-in-Some c =
    let found = table_get c.get.result (codes "outcome") c.args.info.now.entries c.get.ensures.value in
    let is = sym found ∙ ap (option_map _) c.in-Some.is in
    on_ok_weaker c.put_value.result
    (puts_ruled (table_view c.args.info.now) (view c.in-Some.outcome.now) c.args.out.now c.token.new.self _ is c.in_ok-token-in-Some.ensures.ok) c.put_value.ensures

pub returns-in-None : goal.returns-in-None
returns-in-None c =
    let found = table_get c.get.result (codes "outcome") c.args.info.now.entries c.get.ensures.value in
    puts_none (table_view c.args.info.now) c.args.out.now (sym found ∙ ap (option_map _) c.in-None.is)
