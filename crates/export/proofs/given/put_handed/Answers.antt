use Rattle.std.proofs.Common.{arith}
use Rattle.std.proofs.lemmas.Grind.{common_steps}
use Rattle.std.proofs.lemmas.Result.{on_ok_weaker}
use Rattle.toml.specs.View.{view}
use Rattle.export.proofs.GivenLemmas.{left_out, put_so}
use Rattle.export.proofs.given.put_handed.Goals as goal

pub returns-then-is_own : goal.returns-then-is_own
returns-then-is_own c = left_out c.args.key.now (view c.args.value.now) c.args.out.now (grind (arith, common_steps))

pub returns : goal.returns
returns c =
    on_ok_weaker c.put_value.result (put_so c.args.key.now (view c.args.value.now) c.args.out.now c.token.new.self _ (grind (arith, common_steps)) c.in_ok-token.ensures.ok) c.put_value.ensures
