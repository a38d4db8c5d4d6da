use Rattle.export.proofs.limited.put_most_of.Goals as goal

pub returns : goal.returns
returns c = rw c.from.ensures at c.put_figure.ensures
