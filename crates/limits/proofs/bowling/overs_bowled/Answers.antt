use Rattle.std.proofs.Common.{arith, ◌∙◌}
use Rattle.limits.proofs.WalkLemmas.{bowled_book}
use Rattle.limits.proofs.bowling.overs_bowled.Goals as goal

pub returns-clause-value : goal.returns-clause-value
returns-clause-value g c =
    let is = c.bowled_behind-bowled.ensures.value ∙ bowled_book c.args.player _ _ c.clean_items.ensures.value in
    grind (arith, is)
