use Rattle.posts.proofs.VeilLemmas.{growing}
use Rattle.posts.proofs.laws.each_number_once.Goals as goal

pub returns : goal.returns
returns c = growing
