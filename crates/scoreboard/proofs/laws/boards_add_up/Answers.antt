use Rattle.falls.proofs.LawLemmas.{falls_stand}
use Rattle.match_laws.proofs.TotalLemmas.{adds_up}
use Rattle.scoreboard.proofs.LawLemmas.{falls-wickets, counts_this_over}
use Rattle.scoreboard.proofs.laws.boards_add_up.Goals as goal

pub returns-clause-innings : goal.returns-clause-innings
returns-clause-innings c = λ n h legal ranges i. record { runs = adds_up n h legal ranges i; wickets = falls-wickets n h i legal }

pub returns-clause-this_over : goal.returns-clause-this_over
returns-clause-this_over c = λ h is. counts_this_over h is

pub returns-clause-falls : goal.returns-clause-falls
returns-clause-falls c = λ n h legal i. falls_stand n h legal i
