use Rattle.std.proofs.Common.{sym, append-nil}
use Rattle.std.specs.Prelude.{string_bytes}
use Rattle.json_fields.specs.Values.{up_to}
use Rattle.json_fields.proofs.Putting.{up_to-none, up_to-more}
use Rattle.page.specs.Bars.{wicket_svg}
use Rattle.page.proofs.Growing.{grows_both}
use Rattle.page.proofs.bars.put_wickets.Goals as goal

pub loop-others-init : goal.loop-others-init
loop-others-init c = rw up_to-none (sym (append-nil _))

pub loop-others-preserved : goal.loop-others-preserved
loop-others-preserved c =
    let ring = wicket_svg c.args.overs c.args.runs in
    let k = c.loop-others.others in
    rw up_to-more (
    grows_both (string_bytes c.args.out.now) (string_bytes c.loop-others.out) (string_bytes c.put_wicket.new.out) (up_to ring k) (ring k)
    c.loop-others.invariant c.in_ok-put_wicket.ensures)
