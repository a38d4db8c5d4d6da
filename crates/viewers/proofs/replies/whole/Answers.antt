use Rattle.viewers.proofs.ResponseLemmas.{is_response}
use Rattle.viewers.proofs.replies.whole.Goals as goal

pub returns-clause-http : goal.returns-clause-http
returns-clause-http c =
    let head = c.in_ok-out.ensures in
    let rest = c.in_ok-put_text.ensures in
    is_response _ _ _ _ _ _ _ _ _ _ head.text head.next head.taken c.sent_of.ensures rest.text rest.fits rest.ends c.put_text.ensures.short
