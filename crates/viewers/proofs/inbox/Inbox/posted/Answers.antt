use Rattle.std.proofs.Common.{refl}
use Rattle.viewers.proofs.inbox.Inbox.posted.Goals as goal

pub returns-in-Ok-clause-comes_to : goal.returns-in-Ok-clause-comes_to
returns-in-Ok-clause-comes_to c =
    rw (rw c.len.ensures.value at c.in-Ok.ensures.verdict) (
      refl,
      record {
        posted = c.in-Ok.line;
        added = c.push.ensures.items;
        text = refl;
        by = c.in-Ok.ensures.by;
        stands = c.in-Ok.ensures.at;
      },
    )
