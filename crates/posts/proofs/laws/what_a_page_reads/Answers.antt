use Rattle.posts.proofs.VeilLemmas.{reads, reads_nothing}
use Rattle.posts.proofs.laws.what_a_page_reads.Goals as goal

pub returns-clause-reads : goal.returns-clause-reads
returns-clause-reads c = reads

pub returns-clause-else_nothing : goal.returns-clause-else_nothing
returns-clause-else_nothing c = reads_nothing
