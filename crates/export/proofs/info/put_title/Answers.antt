use Rattle.std.proofs.Common.{arith, codes, refl}
use Rattle.toml.specs.View.{table_view}
use Rattle.json_fields.proofs.Putting.{no_fields}
use Rattle.export.proofs.HandedLemmas.{has_key}
use Rattle.export.proofs.info.put_title.Goals as goal

pub returns-then-has_event : goal.returns-then-has_event
returns-then-has_event c = λ given are.
    grind (arith, no_fields c.args.out.now, has_key (codes "event") (table_view c.args.info.now) given are refl)

pub returns : goal.returns
returns c = λ given are. grind (arith, has_key (codes "event") (table_view c.args.info.now) given are refl)
