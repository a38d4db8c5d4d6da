use Rattle.export.proofs.LawLemmas.{totals_add_up}
use Rattle.export.proofs.WicketLemmas.{wickets_add_up}
use Rattle.export.proofs.EntryLemmas.{has_each}
use Rattle.falls.proofs.LawLemmas.{falls_stand}
use Rattle.corrections.proofs.LegalLemmas.{legal_now}
use Rattle.export.proofs.laws.exports_add_up.Goals as goal

pub returns : goal.returns
returns c = record {
  totals = totals_add_up;
  wickets = wickets_add_up;
  falls = λ n book legal i. falls_stand n _ (legal_now n book legal) i;
  entries = has_each;
}
