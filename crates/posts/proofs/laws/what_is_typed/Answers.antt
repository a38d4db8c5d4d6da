use Rattle.posts.proofs.NonceLemmas.{typed}
use Rattle.posts.proofs.laws.what_is_typed.Goals as goal

pub returns : goal.returns
returns c = typed
