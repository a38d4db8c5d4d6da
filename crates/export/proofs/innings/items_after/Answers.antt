use Rattle.std.proofs.Common.{append_assoc, arith}
use Rattle.std.proofs.lemmas.Bool.Decides.{nat_tests}
use Rattle.corrections.proofs.ListLemmas.{next}
use Rattle.export.proofs.innings.items_after.Goals as goal

pub loop-index-preserved : goal.loop-index-preserved
loop-index-preserved c =
    grind (arith, nat_tests, append_assoc, next c.args.notes.now c.loop-index.index c.noted_at-noted.result c.noted_at-noted.ensures)
