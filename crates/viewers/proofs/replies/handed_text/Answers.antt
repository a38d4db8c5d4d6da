use Rattle.std.proofs.Common.{◌≡◌, IfOk, codes, false, subst}
use Rattle.viewers.specs.Replies as texts
use Rattle.viewers.proofs.replies.handed_text.Goals as goal

pub returns : goal.returns
returns c =
    subst (λ t. IfOk c.whole.result
    (λ bytes. bytes.items ≡ texts.whole_text c.args.server.now c.args.station 200 (codes "OK") texts.plain t false))
    c.handed_line-line.ensures c.whole.ensures.text
