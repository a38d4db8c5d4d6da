use Rattle.agree_core.specs.declared.messages.DeskId.TheVariants.{A, B}
use Rattle.links.proofs.early.EarlyVotes.answers.Goals as goal

pub returns-then-lacks_none : goal.returns-then-lacks_none
returns-then-lacks_none c e A h = c.lacks_none.ensures c.if-lacks_none.true h
returns-then-lacks_none c e B h = c.lacks_none-then-lacks_none.ensures e h
