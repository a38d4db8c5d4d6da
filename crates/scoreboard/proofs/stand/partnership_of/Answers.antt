use Rattle.std.proofs.Common.{◌∙◌}
use Rattle.corrections.proofs.LegalLemmas.{history_of-clean_items}
use Rattle.scoreboard.proofs.StandLemmas.{stand_book}
use Rattle.scoreboard.proofs.stand.partnership_of.Goals as goal

pub share_for-requires-clause-played : goal.share_for-requires-clause-played
share_for-requires-clause-played g c = rw (c.clean_items-items.ensures.value, history_of-clean_items _) c.requires

pub share_for-requires-2-clause-played : goal.share_for-requires-2-clause-played
share_for-requires-2-clause-played g c = rw (c.clean_items-items.ensures.value, history_of-clean_items _) c.requires

pub returns : goal.returns
returns g c =
    let all = c.stand_of.ensures ∙ stand_book _ _ c.clean_items-items.ensures.value in
    let striker = rw (c.clean_items-items.ensures.value, history_of-clean_items _) at c.share_for.ensures in
    let other = rw (c.clean_items-items.ensures.value, history_of-clean_items _) at c.share_for-2.ensures in
    λ i. record { all = all i; striker = striker i; other = other i }
