use Rattle.std.proofs.Common.{◌<◌, false, arith, ◌∙◌, length}
use Rattle.std.proofs.lemmas.List.{length-set}
use Rattle.std.proofs.lemmas.List.Edits.{fill_by_more}
use Rattle.qr.specs.Modules.{is_dark_in_all}
use Rattle.qr.proofs.placing.dark_in_all.Goals as goal

pub loop-at-preserved : goal.loop-at-preserved
loop-at-preserved c =
    let within : c.loop-at.at < length c.loop-at.modules = omega (arith, c.loop-at.invariant.len) in record {
      len = length-set _ _ _ ∙ c.loop-at.invariant.len;
      each = rw c.is_dark_in_all.ensures (fill_by_more is_dark_in_all c.loop-at.modules c.loop-at.at false within c.loop-at.invariant.each);
    }
