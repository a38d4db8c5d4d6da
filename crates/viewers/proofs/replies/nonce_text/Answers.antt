use Rattle.std.proofs.Common.{◌≡◌, IfOk, codes, false, subst, ◌∙◌}
use Rattle.viewers.specs.Replies as texts
use Rattle.viewers.proofs.replies.nonce_text.Goals as goal

pub returns-in-Ok : goal.returns-in-Ok
returns-in-Ok c =
    subst (λ t. IfOk c.whole.result
    (λ bytes. bytes.items ≡ texts.whole_text c.args.server.now c.args.station 200 (codes "OK") texts.plain t false))
    (c.as_slice.ensures.value ∙ c.in-Ok.ensures) c.whole.ensures.text
