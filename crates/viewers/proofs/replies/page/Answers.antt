use Rattle.std.proofs.Common.{◌≡◌, IfOk, codes, subst}
use Rattle.viewers.specs.Replies as texts
use Rattle.viewers.proofs.replies.page.Goals as goal

pub returns : goal.returns
returns c =
    subst (λ t. IfOk c.whole.result
    (λ bytes. bytes.items ≡ texts.whole_text c.args.server.now c.args.station 200 (codes "OK") texts.html t c.args.is_head))
    c.page_of.ensures c.whole.ensures.text
