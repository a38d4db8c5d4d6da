use Rattle.posts.proofs.PostedLemmas.{were_posted}
use Rattle.desk_command.proofs.laws.what_a_page_typed_was_posted.Goals as goal

pub returns-clause-lines : goal.returns-clause-lines
returns-clause-lines c = c.args._life.now.entries

pub returns-clause-posted : goal.returns-clause-posted
returns-clause-posted c = were_posted _
