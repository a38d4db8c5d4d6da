use Rattle.typing.proofs.CourseLemmas.{drawn_behind, told_is_heard, unbroken_from}
use Rattle.typing.proofs.laws.rows_are_shown_whole.Goals as goal

pub returns-clause-told : goal.returns-clause-told
returns-clause-told c = told_is_heard

pub returns-clause-unbroken : goal.returns-clause-unbroken
returns-clause-unbroken c = unbroken_from

pub returns-clause-below : goal.returns-clause-below
returns-clause-below c = drawn_behind
