use Rattle.posts.proofs.NonceLemmas.{taken}
use Rattle.posts.proofs.laws.what_is_taken.Goals as goal

pub returns : goal.returns
returns c = λ secret out line post at waiting h. taken secret out post at waiting line h
