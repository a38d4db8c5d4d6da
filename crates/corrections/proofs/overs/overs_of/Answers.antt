use Rattle.corrections.proofs.OverLemmas.{overs-book}
use Rattle.corrections.proofs.overs.overs_of.Goals as goal

pub returns-clause-overs : goal.returns-clause-overs
returns-clause-overs g c = overs-book _ _ _ c.clean_items.ensures.value c.overs_among.ensures.kept
