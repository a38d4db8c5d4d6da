use Rattle.std.proofs.Common.{◌∙◌, sym}
use Rattle.links.proofs.KeptVotes.{keeps, one_more}
use Rattle.links.proofs.early.EarlyVotes.keep.Goals as goal

pub returns-clause-kept : goal.returns-clause-kept
returns-clause-kept c = keeps _ _ _ _ _ c.insert.result c.insert.ensures.entries c.insert.ensures.err

pub returns-clause-more : goal.returns-clause-more
returns-clause-more c e = one_more _ _ c.insert.result _ c.insert.ensures.old c.insert.ensures.len
    (sym c.contains_key.ensures ∙ c.if-contains_key.false) (sym c.is_ok.ensures.value ∙ e)
