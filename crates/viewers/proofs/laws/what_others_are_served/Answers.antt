use Rattle.viewers.proofs.OpenLemmas.{same_answer, same_number, same_told}
use Rattle.viewers.proofs.laws.what_others_are_served.Goals as goal

pub returns-clause-answers : goal.returns-clause-answers
returns-clause-answers c = same_answer

pub returns-clause-told : goal.returns-clause-told
returns-clause-told c = same_told

pub returns-clause-news : goal.returns-clause-news
returns-clause-news c = same_number
