use Rattle.std.proofs.Common.{Some, None, rules, tests}
use Rattle.std.proofs.lemmas.Iterator.{YieldsList-from_slice}
use Rattle.std.proofs.lemmas.Iterator.Search.{position_from_yields_List}
use Rattle.notation.proofs.Splits.{space, cut_some, cut_none}
use Rattle.notation.proofs.cursor.cut.Goals as goal

pub returns-in-Some : goal.returns-in-Some
returns-in-Some c =
    let at = position_from_yields_List space _ _ (Some c.in-Some.at) c.in-Some.ensures.ran (YieldsList-from_slice c.args.bytes.now c.iter.ensures.rest) (λ x b q k. search (rules, tests)) in
    rw (c.split_at.ensures.front, c.split_at-in-Some.ensures.back, c.split_at.ensures.back) (cut_some c.args.bytes.now c.in-Some.at at).0

pub returns-in-None : goal.returns-in-None
returns-in-None c =
    let at = position_from_yields_List space _ _ None c.in-None.ensures.ran (YieldsList-from_slice c.args.bytes.now c.iter.ensures.rest) (λ x b q k. search (rules, tests)) in
    cut_none c.args.bytes.now at
