use Rattle.std.proofs.Common.{arith, codes, refl}
use Rattle.toml.specs.View.{table_view}
use Rattle.json_fields.proofs.Putting.{no_fields}
use Rattle.export.proofs.HandedLemmas.{has_key}
use Rattle.export.proofs.info.put_overs_of.Goals as goal

pub returns-then-has_overs : goal.returns-then-has_overs
returns-then-has_overs c = λ given are.
    grind (arith, no_fields c.args.out.now, has_key (codes "overs") (table_view c.args.info.now) given are refl)

pub returns : goal.returns
returns c = λ given are.
    let put = rw (c.overs_for.ensures, c.limits.ensures) at c.put_overs_told.ensures in
    grind (arith, put, has_key (codes "overs") (table_view c.args.info.now) given are refl)
