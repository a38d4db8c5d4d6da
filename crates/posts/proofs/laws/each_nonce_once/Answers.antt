use Rattle.std.proofs.Common.{[]}
use Rattle.posts.proofs.NonceLemmas.{none_is_below, once}
use Rattle.posts.proofs.laws.each_nonce_once.Goals as goal

pub returns : goal.returns
returns c = λ secret calls. once secret calls [] 1 none_is_below
