use Rattle.same_figures.proofs.TextLemmas.{tell_the_same}
use Rattle.same_figures.proofs.laws.texts_tell_the_same.Goals as goal

pub returns : goal.returns
returns c s book entries legal = tell_the_same s book entries legal
