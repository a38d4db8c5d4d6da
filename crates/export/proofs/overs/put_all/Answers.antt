use Rattle.std.proofs.Common.{arith}
use Rattle.std.proofs.lemmas.Grind.{common_steps}
use Rattle.corrections.proofs.ListLemmas.{next}
use Rattle.json_fields.specs.Values.{values_tokens}
use Rattle.json_fields.proofs.Putting.{json_parts}
use Rattle.export.proofs.overs.put_all.Goals as goal

pub loop-index-preserved : goal.loop-index-preserved
unfolding values_tokens
loop-index-preserved c =
    grind (arith, common_steps, json_parts, next c.args.items.now c.loop-index.index c.noted_at-noted.result c.noted_at-noted.ensures)
