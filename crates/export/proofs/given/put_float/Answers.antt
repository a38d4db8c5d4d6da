use Rattle.std.proofs.Common.{◌≡◌, true, false, refl, arith}
use Rattle.std.specs.Float.{float_is_finite}
use Rattle.std.proofs.lemmas.Grind.{common_steps}
use Rattle.std.proofs.lemmas.Result.{on_ok_weaker}
use Rattle.json.specs.Json.{null, number}
use Rattle.json.proofs.Printed.Floats.{IsNumber-plain}
use Rattle.export.proofs.given.put_float.Goals as goal

pub returns-then-not-is_finite : goal.returns-then-not-is_finite
returns-then-not-is_finite c =
    let none : float_is_finite c.args.number ≡ false = grind (arith, common_steps) in
    on_ok_weaker c.token.result (λ e. (null, rw none refl, e)) c.token.ensures.ok

pub token-requires-2 : goal.token-requires-2
token-requires-2 c = IsNumber-plain _ c.format_finite.ensures.plain

pub returns : goal.returns
returns c =
    let text = c.format_finite.result.now in
    let finite : float_is_finite c.args.number ≡ true = grind (arith, common_steps) in
    on_ok_weaker c.token-2.result (λ e. (
      number text,
      rw finite (text, refl, IsNumber-plain _ c.format_finite.ensures.plain, c.format_finite.ensures.parses),
      e,
    )) c.token-2.ensures.ok
