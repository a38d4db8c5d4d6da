use Rattle.falls.proofs.LawLemmas.{falls_stand}
use Rattle.falls.proofs.laws.falls_stand.Goals as goal

pub returns : goal.returns
returns c n h legal i = falls_stand n h legal i
