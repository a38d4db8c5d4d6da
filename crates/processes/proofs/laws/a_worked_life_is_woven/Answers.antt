use Rattle.processes.proofs.Worked.{lived_has_exchange, lived_is_woven}
use Rattle.processes.proofs.laws.a_worked_life_is_woven.Goals as goal

pub returns-clause-lives : goal.returns-clause-lives
returns-clause-lives c = lived_is_woven

pub returns-clause-exchange : goal.returns-clause-exchange
returns-clause-exchange c = lived_has_exchange
