use Rattle.match_laws.proofs.TotalLemmas.{adds_up}
use Rattle.match_laws.proofs.laws.totals_add_up.Goals as goal

pub returns : goal.returns
returns c = record { histories = adds_up; matches = λ m n h s. adds_up n h s.legal s.in_range }
