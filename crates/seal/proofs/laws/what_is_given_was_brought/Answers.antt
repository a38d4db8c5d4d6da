use Rattle.seal.proofs.OpeningLemmas.{given_was_brought}
use Rattle.seal.proofs.laws.what_is_given_was_brought.Goals as goal

pub returns : goal.returns
returns c = given_was_brought
