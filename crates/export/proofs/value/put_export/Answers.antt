use Rattle.std.proofs.Common.{subst}
use Rattle.std.proofs.lemmas.Result.{on_ok_weaker}
use Rattle.json_fields.proofs.Putting.{◌▸◌, begins, is_object}
use Rattle.export.specs.Given.{AreFieldsOf, others, ruled}
use Rattle.export.proofs.value.put_export.Goals as goal

pub returns : goal.returns
returns g c =
    let s = rw c.requires.innings at c.score-score.ensures.score in
    let put = c.in_ok-put_info.ensures _ s in
    let hands_on = subst (λ ms. AreFieldsOf (others ms) put.0) c.info_or-info.ensures put.1 in
    let meta = begins c.in_ok-begin_object.ensures ▸ c.in_ok-put_meta.ensures in
    let info = meta ▸ (rw c.info_or-info.ensures at put.2) in
    let innings = info ▸ (rw c.requires.noted at (c.in_ok-put_all_innings.ensures _ _ s c.requires.begun)) in
    let own = c.in_ok-put_own.ensures put.0 put.1 in
    let is_ruled = subst (λ ms. AreFieldsOf (ruled ms) own.0) c.info_or-info.ensures own.1 in
    on_ok_weaker c.end_object.result (λ e. (put.0, hands_on, own.0, is_ruled, e)) (is_object c.end_object.result _ (innings ▸ own.2) c.end_object.ensures)
